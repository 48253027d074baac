use Rattle.std.proofs.Common.{◌*◌}
use Rattle.branch_tree.specs.Walks.{AreWithinPlaces}
use Rattle.branch_tree.proofs.scans.first_above.Given as goal

abbrev pub invariant-loop-run : goal.invariant-loop-run
invariant-loop-run l = AreWithinPlaces l.counts l.limits (l.run * 64)
