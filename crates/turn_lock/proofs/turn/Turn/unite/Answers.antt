use Rattle.std.proofs.Common.{◌∙◌, ap, sym, arith}
use Rattle.turn_lock.proofs.PartKeeps.{joins}
use Rattle.turn_lock.proofs.Uniting.{begins, goes_on, rest_of_other}
use Rattle.turn_lock.proofs.turn.Turn.unite.Goals as goal

pub loop-other-init : goal.loop-other-init
loop-other-init g c = let o = c.into_seat-last.ensures in
    begins _ _ _ c.in-Some.first _ c.in-Some.ensures.items c.requires.rest (record { turn_is = o.turn; holds_is = o.holds; empty = o.empty; caller_is = o.caller })

pub join_seat-requires : goal.join_seat-requires
join_seat-requires g c = let u = c.loop-other.invariant in let o = c.into_seat.ensures in
    let resting = rest_of_other _ _ _ _ c.in-Some-pop.other _ u c.in-Some-pop.ensures.items in (
      u.same ∙ sym (ap (λ r. r.id) c.self.view_is),
      o.turn ∙ (resting.0.0 ∙ sym (ap (λ r. r.id) c.self.view_is)),
      o.empty resting.1,
      (let words = c.self.invariant.0 in omega arith),
      joins _ _ _ _ _ _ c.loop-other.last.me _ _ u.free (o.holds ∙ resting.1) u.some_caller,
    )

pub loop-other-preserved : goal.loop-other-preserved
loop-other-preserved g c = let o = c.into_seat.ensures in
    goes_on _ _ _ _ c.in-Some-pop.other _ c.into_seat.result _ c.loop-other.invariant c.in-Some-pop.ensures.items (record { turn_is = o.turn; holds_is = o.holds; empty = o.empty; caller_is = o.caller }) c.join_seat.ensures.0 c.join_seat.ensures.2
