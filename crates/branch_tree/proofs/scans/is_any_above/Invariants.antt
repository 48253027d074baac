use Rattle.std.proofs.Common.{◌≡◌, false}
use Rattle.branch_tree.specs.Walks.{AreWithinFrom}
use Rattle.branch_tree.proofs.scans.is_any_above.Given as goal

abbrev pub invariant-loop-place : goal.invariant-loop-place
invariant-loop-place l = l.is_any ≡ false → AreWithinFrom l.counts l.limits l.from l.place
