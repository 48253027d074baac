use Rattle.std.proofs.Common.{◌≡◌}
use Rattle.std.specs.Prelude.{slice_index}
use Rattle.choice_problem.specs.Roots.{vector_of}
use Rattle.dual_bound.proofs.points.vector_in.Given as goal

abbrev pub invariant-loop-resource : goal.invariant-loop-resource
invariant-loop-resource l = l.entries.items ≡ vector_of l.resource (λ r. slice_index l.prices r)
