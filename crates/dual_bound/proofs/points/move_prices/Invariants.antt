use Rattle.std.proofs.Common.{◌≡◌, ℕ, ◌+◌, ◌-◌, ◌*◌, ◌<◌, ◌^◌, min, length}
use Rattle.std.specs.Prelude.{slice_index}
use Rattle.choice_problem.specs.Problems.{limit_of}
use Rattle.dual_bound.proofs.points.move_prices.Given as goal

abbrev pub invariant-loop-resource : goal.invariant-loop-resource
invariant-loop-resource l = record {
  count : length l.moved.items ≡ l.resource;
  each : (r : ℕ) → r < l.resource →
      slice_index l.moved.items r ≡ min ((slice_index l.prices r + l.step * slice_index l.loads r) - l.step * limit_of l.problem r) (2 ^ 40 - 1);
}
