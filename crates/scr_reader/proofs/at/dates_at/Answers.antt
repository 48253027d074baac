use Rattle.std.proofs.Common.{◌≡◌, List, ℕ}
use Rattle.slot_text.specs.Fields.{field_at}
use Rattle.scr_reader.specs.Parts.{IsPeriod}
use Rattle.scr_reader.proofs.AtLemmas.{ok_after, at_field}
use Rattle.scr_reader.proofs.at.dates_at.Goals as goal

pub returns-clause-only : goal.returns-clause-only
returns-clause-only c = λ first last is.
    let named : IsPeriod c.args.season.now c.in_ok-field.field.now first last =
    at_field c.get.result c.in_ok-field.field c.args.n (field_at c.args.fields.now c.args.n) (λ (field : List ℕ). IsPeriod c.args.season.now field first last) c.in_ok-field.ensures.value c.get.ensures is in
    ok_after c.read_dates.result c.args.n c.ok_or-2.result (λ x. (x.0.0 ≡ first) × (x.1.0 ≡ last)) c.ok_or-2.ensures.value (c.read_dates.ensures.only first last named)
