use Rattle.std.proofs.Common.{◌∷◌, [], drop}
use Rattle.std.specs.Prelude.{All}
use Rattle.choice_problem.specs.Bounds.{AreRanges, whole_of}
use Rattle.choice_problem.specs.Trees.{AreSound, IsWhole}
use Rattle.kept_bounds.specs.Kept.{AreKeptFirst}
use Rattle.tested_trees.proofs.exact.is_proof.Given as goal

abbrev pub invariant-loop-node : goal.invariant-loop-node
invariant-loop-node l = record {
  ranges : All (AreRanges l.problem) l.walk;
  bounds : AreKeptFirst l.problem l.vectors l.walk l.changes.items l.kept;
  sound : AreSound l.problem l.vectors l.cost l.walk (drop l.node-index l.nodes) → AreSound l.problem l.vectors l.cost (whole_of l.problem ∷ []) l.nodes;
  whole : IsWhole (drop l.node-index l.nodes) → IsWhole l.nodes;
}
