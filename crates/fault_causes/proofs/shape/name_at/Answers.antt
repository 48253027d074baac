use Rattle.slot_text.specs.Fields.{fields_of}
use Rattle.fault_causes.proofs.ShapeLemmas.{arrival_named, departure_named, both_named}
use Rattle.fault_causes.proofs.shape.name_at.Goals as goal

pub returns-in-Arrival : goal.returns-in-Arrival
returns-in-Arrival c =
    arrival_named (fields_of c.args.line.now) c.movements_in.result c.first_name_in-first.result c.args.number c.saturating_sub-place.result c.name_in.result
    c.movements_in.ensures c.in-Arrival.is c.first_name_in-first.ensures c.saturating_sub-place.ensures c.name_in.ensures

pub returns-in-Departure : goal.returns-in-Departure
returns-in-Departure c =
    departure_named (fields_of c.args.line.now) c.movements_in.result c.args.number c.saturating_sub-place.result c.name_in-in-Departure.result
    c.movements_in.ensures c.in-Departure.is c.saturating_sub-place.ensures c.name_in-in-Departure.ensures

pub returns-in-Both : goal.returns-in-Both
returns-in-Both c =
    both_named (fields_of c.args.line.now) c.movements_in.result c.first_name_in-first.result c.args.number c.saturating_sub-place.result c.name_in-in-Both.result
    c.movements_in.ensures c.in-Both.is c.first_name_in-first.ensures c.saturating_sub-place.ensures c.name_in-in-Both.ensures
