use Rattle.std.proofs.Common.{◌∙◌, Some, false, refl, ap, sym, arith}
use Rattle.atomic_table.specs.Table.{rest}
use Rattle.turn_lock.proofs.GiveKeeps.{given}
use Rattle.turn_lock.proofs.Putting.{is_seat_free}
use Rattle.turn_lock.proofs.turn.Turn.give.Goals as goal

pub swap-requires : goal.swap-requires
swap-requires g c = (
  c.put.ensures.same.0 ∙ (ap (λ s. s.turn) c.seat.view_is
      ∙ (c.requires.of_turn.0 ∙ sym (ap (λ r. r.id) c.self.view_is))),
  (let words = c.self.invariant.0 in omega arith),
  given _ _ _ _ _ _ _ _ (ap (λ v. v.callers) c.put.ensures.view) c.args.value c.put.ensures.slot (ap (λ v. v.holds) c.put.ensures.view) _ refl
      (ap (λ v. v.origin) c.put.ensures.view
      ∙ (ap (λ s. s.origin) c.seat.view_is ∙ (c.requires.of_turn.1 ∙ ap (λ o. Some o) (sym c.requires.origin)))),
)

pub invariant_of-seat : goal.invariant_of-seat
invariant_of-seat g c = is_seat_free g.T.Story.origin g.T.Story.entries g.T.Story.caller _ _ c.args.value _ _ (c.swap.ensures.2.1 ∙ ap (λ v. record { origin = v.origin; callers = v.callers; holds = false }) c.put.ensures.view)
    (c.swap.ensures.2.0 ∙ ap rest c.put.ensures.slot)
