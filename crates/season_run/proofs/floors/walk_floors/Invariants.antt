use Rattle.std.proofs.Common.{◌≡◌, ◌++◌, ℕ, List, drop}
use Rattle.std.specs.Prelude.{All}
use Rattle.choice_problem.specs.Bounds.{AreRanges}
use Rattle.choice_problem.specs.Grafts.{open_ranges}
use Rattle.choice_problem.specs.Walks.{AreWalkable}
use Rattle.season_run.specs.Steps.{AreFound}
use Rattle.season_run.proofs.floors.walk_floors.Given as goal

abbrev pub invariant-loop-node : goal.invariant-loop-node
invariant-loop-node l = record {
  walk : AreWalkable l.walk (drop l.node-index l.tree);
  ranges : All (AreRanges l.fn.kept.problem) l.walk;
  kept_problem : l.kept.problem ≡ l.fn.kept.problem;
  kept_vectors : l.kept.vectors ≡ l.fn.kept.vectors;
  found : (pieces : List (List (ℕ × ℕ))) × (pieces ++ open_ranges l.walk (drop l.node-index l.tree) ≡ open_ranges l.fn.walk l.tree)
      × AreFound l.fn.kept.problem l.fn.kept.vectors l.fn.stated.bound pieces l.stated;
}
