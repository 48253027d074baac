use Rattle.std.proofs.Common.{◌≡◌, ℕ, ◌*◌, ◌≤◌, ◌^◌, List}
use Rattle.choice_problem.specs.declared.vectors.Price.{Price}
use Rattle.finite_sums.specs.Sums.{sum_below, least_within}
use Rattle.choice_problem.specs.Problems.{resource_count}
use Rattle.choice_problem.specs.Bounds.{low_of, high_of, priced_cost}
use Rattle.price_table.specs.Strips.{IsPricedBy}
use Rattle.dual_bound.specs.Ends.{AreEnds}
use Rattle.dual_bound.specs.Loops.{least_alt_load}
use Rattle.dual_bound.proofs.points.take_least.Given as goal

abbrev pub invariant-loop-unit : goal.invariant-loop-unit
invariant-loop-unit l = record {
  total : (prices : List Price) → IsPricedBy l.problem prices l.strips →
      l.total ≡ sum_below l.unit (λ u. least_within (low_of l.ranges u) (high_of l.ranges u) (λ a. priced_cost l.problem prices l.scale u a));
  runs : (prices : List Price) → IsPricedBy l.problem prices l.strips →
      AreEnds (resource_count l.problem) (λ r. least_alt_load l.problem l.ranges prices l.scale l.unit r) l.begins l.ends;
  few : (prices : List Price) → IsPricedBy l.problem prices l.strips → (r : ℕ) → least_alt_load l.problem l.ranges prices l.scale l.unit r ≤ l.unit * 434;
  small : l.total ≤ l.unit * 2 ^ 101;
}
