use Rattle.std.proofs.Common.{◌≡◌, ◌≤◌, ◌*◌, ◌^◌, []}
use Rattle.finite_sums.specs.Sums.{sum_below, least_within}
use Rattle.choice_problem.specs.Bounds.{low_of, high_of, priced_cost}
use Rattle.dual_bound.proofs.kept_floors.sum_costs.Given as goal

abbrev pub invariant-loop-unit : goal.invariant-loop-unit
invariant-loop-unit l = record {
  summed : l.total ≡ sum_below l.unit (λ u. least_within (low_of l.ranges u) (high_of l.ranges u) (λ a. priced_cost l.problem [] 1 u a));
  small : l.total ≤ l.unit * 2 ^ 24;
}
