use Rattle.std.proofs.Common.{◌≡◌, List, ℕ}
use Rattle.slot_text.specs.Fields.{field_at}
use Rattle.scr_reader.specs.Parts.{IsSeats}
use Rattle.scr_reader.proofs.AtLemmas.{ok_after, at_field}
use Rattle.scr_reader.proofs.at.seats_at.Goals as goal

pub returns-clause-only : goal.returns-clause-only
returns-clause-only c = λ seats craft is.
    let named : IsSeats c.in_ok-field.field.now seats craft =
    at_field c.get.result c.in_ok-field.field c.args.n (field_at c.args.fields.now c.args.n) (λ (field : List ℕ). IsSeats field seats craft) c.in_ok-field.ensures.value c.get.ensures is in
    ok_after c.read_seats.result c.args.n c.ok_or-2.result (λ x. (x.0 ≡ seats) × (x.1.0 ≡ craft)) c.ok_or-2.ensures.value (c.read_seats.ensures.only seats craft named)
