use Rattle.dual_bound.specs.Classes.{AreFirstOnes}
use Rattle.dual_bound.proofs.passable.first_ones.Given as goal

abbrev pub invariant-loop-at : goal.invariant-loop-at
invariant-loop-at l = AreFirstOnes l.firsts l.list l.at l.ones.items
