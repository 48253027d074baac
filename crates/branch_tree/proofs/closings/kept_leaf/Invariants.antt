use Rattle.std.proofs.Common.{◌∷◌}
use Rattle.price_table.specs.Tables.{vectors_of}
use Rattle.branch_tree.specs.Visits.{AreOpen}
use Rattle.branch_tree.proofs.closings.kept_leaf.Given as goal

abbrev pub invariant-loop-place : goal.invariant-loop-place
invariant-loop-place l = AreOpen l.problem (l.root.prices ∷ vectors_of l.further) l.place l.ranges l.seen
