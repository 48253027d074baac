use Rattle.std.proofs.Common.{take}
use Rattle.std.specs.Prelude.{All}
use Rattle.choice_problem.specs.Bounds.{IsVector}
use Rattle.tested_trees.proofs.exact.are_vectors.Given as goal

abbrev pub invariant-loop-vector : goal.invariant-loop-vector
invariant-loop-vector l = All (IsVector l.problem) (take l.vector-index l.vectors)
