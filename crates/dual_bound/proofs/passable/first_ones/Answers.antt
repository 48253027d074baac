use Rattle.dual_bound.proofs.PassableLemmas.{AreFirstOnes-none, AreFirstOnes-push, AreFirstOnes-same}
use Rattle.dual_bound.proofs.passable.first_ones.Goals as goal
use Rattle.dual_bound.proofs.passable.first_ones.Goals.{then-firsts-list+in_ok-push, else-firsts-list}

pub loop-at-init : goal.loop-at-init
loop-at-init c = rw c.new-ones.ensures.items (AreFirstOnes-none c.args.firsts.now c.args.list.now)

pub loop-at-preserved : goal.loop-at-preserved
loop-at-preserved c =
    let firsts = c.args.firsts.now in
    let list = c.args.list.now in
    let at = c.loop-at.at in
    let ones = c.loop-at.ones.items in
    elim c.if-firsts-list.branch [
      | then-firsts-list+in_ok-push w ↦ rw (w.ones-is, w.in_ok-push.ensures.items) (AreFirstOnes-push firsts list at ones c.loop-at-test.true c.loop-at.invariant)
      | else-firsts-list w ↦ rw w.ones-is (AreFirstOnes-same firsts list at ones w.if-firsts-list.false c.loop-at.invariant)
    ]
