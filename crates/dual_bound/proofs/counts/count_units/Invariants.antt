use Rattle.std.proofs.Common.{ℕ, ◌<◌}
use Rattle.finite_sums.specs.Sums.{sum_below}
use Rattle.choice_problem.specs.Problems.{unit_count, alt_count, alt_uses}
use Rattle.dual_bound.specs.Kept.{AreAtLeast}
use Rattle.dual_bound.proofs.counts.count_units.Given as goal

abbrev pub invariant-loop-unit : goal.invariant-loop-unit
invariant-loop-unit l = record {
  counted : (x : ℕ → ℕ) → ((u : ℕ) → u < unit_count l.problem → x u < alt_count l.problem u) →
      AreAtLeast l.counts (λ r. sum_below l.unit (λ u. alt_uses l.problem u (x u) r));
}
