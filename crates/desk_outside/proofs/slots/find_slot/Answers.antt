use Rattle.std.proofs.Common.{sym, ap, ◌∙◌}
use Rattle.std.specs.Str.{bytes_eq}
use Rattle.desk_outside.specs.declared.slots.Slot.{Slot}
use Rattle.desk_outside.proofs.SlotLemmas.{place_from, none_under}
use Rattle.desk_outside.proofs.slots.find_slot.Goals as goal

pub returns-then-has_name-clause-place : goal.returns-then-has_name-clause-place
returns-then-has_name-clause-place c =
    place_from c.args.slots.now c.args.name.now c.loop-at.at c.index-slots-at.result c.loop-at-test.true
    (ap (λ (slot : Slot). bytes_eq slot.name.bytes c.args.name.now) (sym c.index-slots-at.is) ∙ sym c.has_name.ensures ∙ c.if-has_name.true) c.loop-at.invariant

pub returns-clause-place : goal.returns-clause-place
returns-clause-place c = none_under c.args.slots.now c.args.name.now c.loop-at.at c.loop-at-test.false c.loop-at.invariant
