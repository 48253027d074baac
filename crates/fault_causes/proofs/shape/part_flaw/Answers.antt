use Rattle.std.proofs.Common.{sym, subst}
use Rattle.scr_reader.specs.Shapes.{Shape}
use Rattle.fault_causes.specs.Requests.{shape_named, IsPartFlaw}
use Rattle.fault_causes.specs.declared.cause.FieldName.{FieldName}
use Rattle.fault_causes.proofs.shape.part_flaw.Goals as goal

pub returns-in-Departure : goal.returns-in-Departure
returns-in-Departure c =
    let season = c.args.season.now in
    let flaw = c.departure_flaw.result in
    subst (λ (shape : Shape). IsPartFlaw season shape c.args.name c.args.text.now flaw) c.movements_in.ensures
    (subst (λ (name : FieldName). IsPartFlaw season (shape_named c.movements_in.result) name c.args.text.now flaw) (sym c.in-Departure.is) (c.departure_flaw.ensures season))
