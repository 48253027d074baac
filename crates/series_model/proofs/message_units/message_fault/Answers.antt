use Rattle.std.proofs.Common.{◌≡◌, ◌∙◌, ap, subst, Some}
use Rattle.scr_reader.specs.declared.stray.StrayLine.{StrayLine}
use Rattle.scr_reader.specs.declared.stray.StrayLine.TheVariants.{Airport}
use Rattle.scr_reader.specs.Strays.{IsStrayLine}
use Rattle.series_model.specs.Submissions.{items_fault}
use Rattle.series_model.proofs.StrayLemmas.{other_airport, no_stray}
use Rattle.series_model.proofs.message_units.message_fault.Goals as goal

pub returns-in-Some-Airport : goal.returns-in-Some-Airport
returns-in-Some-Airport c =
    let d = c.args.declaration.now in
    let m = c.args.message.now in
    let shape : c.in-Some-Airport.field-0 ≡ Airport c.in-Some-Airport.line = c.in-Some-Airport.field-0-is in
    let is : IsStrayLine d.season d.airport m (Some (Airport c.in-Some-Airport.line)) =
    subst (λ (s : StrayLine). IsStrayLine d.season d.airport m (Some s)) shape c.in-Some-Airport.ensures in
    other_airport d m c.in-Some-Airport.line is.0 is.1 is.2

pub returns-in-None : goal.returns-in-None
returns-in-None c =
    c.items_fault.ensures ∙ ap items_fault c.items.ensures ∙ no_stray c.args.declaration.now c.args.message.now c.in-None.ensures.0 c.in-None.ensures.1
