use Rattle.std.proofs.Common.{◌≡◌, ℕ, ◌<◌, length}
use Rattle.std.specs.Prelude.{slice_index}
use Rattle.choice_problem.specs.Problems.{limit_of}
use Rattle.dual_bound.proofs.refine.limit_classes.Given as goal

abbrev pub invariant-loop-resource : goal.invariant-loop-resource
invariant-loop-resource l = record {
  count : length l.limits.items ≡ l.resource;
  each : (r : ℕ) → r < l.resource → slice_index l.limits.items r ≡ limit_of l.problem r;
}
