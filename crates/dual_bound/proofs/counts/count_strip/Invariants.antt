use Rattle.std.proofs.Common.{ℕ, ◌+◌}
use Rattle.std.specs.Prelude.{if◌then◌else◌}
use Rattle.finite_sums.specs.Sums.{sum_below}
use Rattle.choice_problem.specs.Strips.{is_in_run}
use Rattle.dual_bound.specs.Kept.{AreAtLeast, AreRaised}
use Rattle.dual_bound.proofs.counts.count_strip.Given as goal

abbrev pub invariant-loop-run : goal.invariant-loop-run
invariant-loop-run l = record {
  counted : (uses : ℕ → ℕ) → AreAtLeast l.fn.counts uses → AreAtLeast l.counts (λ r. uses r + sum_below l.run (λ i. if is_in_run l.strip r i then 1 else 0));
  raised : AreRaised l.fn.counts l.counts;
}
