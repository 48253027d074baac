use Rattle.std.proofs.Common.{◌≡◌, ℕ, ◌<◌, ◌^◌, [], length}
use Rattle.std.specs.Prelude.{slice_index}
use Rattle.finite_sums.specs.Sums.{least_within}
use Rattle.choice_problem.specs.Bounds.{low_of, high_of, priced_cost}
use Rattle.dual_bound.proofs.kept_floors.costs_of.Given as goal

abbrev pub invariant-loop-unit : goal.invariant-loop-unit
invariant-loop-unit l = record {
  count : length l.costs.items ≡ l.unit;
  each : (u : ℕ) → u < l.unit → slice_index l.costs.items u ≡ least_within (low_of l.ranges u) (high_of l.ranges u) (λ a. priced_cost l.problem [] 1 u a);
  small : (u : ℕ) → u < l.unit → slice_index l.costs.items u < 2 ^ 24;
}
