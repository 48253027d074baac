use Rattle.std.proofs.Common.{ℕ, ◌<◌, take}
use Rattle.choice_problem.specs.Strips.{part_uses}
use Rattle.window_counts.specs.Counts.{KeepsLimit}
use Rattle.window_counts.proofs.fitting.part_fits.Given as goal

abbrev pub invariant-loop-strip : goal.invariant-loop-strip
invariant-loop-strip l = (r : ℕ) → 0 < part_uses (take l.strip-index l.strip-items) r → KeepsLimit l.counts (λ _. l.more) l.limits r
