use Rattle.std.proofs.Common.{ℕ, ◌<◌}
use Rattle.finite_sums.specs.Sums.{count_below}
use Rattle.choice_problem.specs.Strips.{is_in_run}
use Rattle.window_counts.specs.Counts.{KeepsLimit}
use Rattle.window_counts.proofs.fitting.strip_fits.Given as goal

abbrev pub invariant-loop-i : goal.invariant-loop-i
invariant-loop-i l = (r : ℕ) → 0 < count_below l.i (λ i. is_in_run l.strip r i) → KeepsLimit l.counts (λ _. l.more) l.limits r
