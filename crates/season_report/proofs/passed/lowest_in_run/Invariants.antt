use Rattle.std.proofs.Common.{◌≡◌, ℕ, ◌<◌, ◌≤◌, false}
use Rattle.season_report.specs.Private.{is_above_at}
use Rattle.season_report.proofs.passed.lowest_in_run.Given as goal

abbrev pub invariant-loop-at : goal.invariant-loop-at
invariant-loop-at l = (r : ℕ) → l.start ≤ r → r < l.at → is_above_at l.counts l.limits r ≡ false
