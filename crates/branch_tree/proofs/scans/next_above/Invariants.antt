use Rattle.branch_tree.specs.Walks.{AreWithinPlaces}
use Rattle.branch_tree.proofs.scans.next_above.Given as goal

abbrev pub invariant-loop-place : goal.invariant-loop-place
invariant-loop-place l = AreWithinPlaces l.counts l.limits l.place
