use Rattle.std.proofs.Common.{ℕ, ◌<◌, ◌≤◌}
use Rattle.window_counts.specs.Counts.{KeepsLimit}
use Rattle.window_counts.proofs.fitting.run_fits.Given as goal

abbrev pub invariant-loop-at : goal.invariant-loop-at
invariant-loop-at l = (r : ℕ) → l.start ≤ r → r < l.at → KeepsLimit l.counts (λ _. l.more) l.limits r
