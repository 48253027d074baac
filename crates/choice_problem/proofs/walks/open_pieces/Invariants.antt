use Rattle.std.proofs.Common.{◌≡◌, ◌≤◌, ◌∷◌, ◌++◌, [], length, take, drop}
use Rattle.choice_problem.specs.Grafts.{open_ranges}
use Rattle.choice_problem.specs.Walks.{AreWalkable}
use Rattle.choice_problem.proofs.walks.open_pieces.Given as goal

abbrev pub invariant-loop-node : goal.invariant-loop-node
invariant-loop-node l = record {
  onward : AreWalkable (l.fn.ranges ∷ []) l.tree → AreWalkable l.walk (drop l.node-index l.tree);
  back : AreWalkable l.walk (drop l.node-index l.tree) → AreWalkable (l.fn.ranges ∷ []) l.tree;
  few : length l.pieces.items ≤ l.most;
  kept : take l.most (l.pieces.items ++ open_ranges l.walk (drop l.node-index l.tree)) ≡ take l.most (open_ranges (l.fn.ranges ∷ []) l.tree);
}
