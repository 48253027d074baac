use Rattle.std.proofs.Common.{◌≡◌, ◌<◌, ◌≤◌, ℕ, false}
use Rattle.season_days.specs.Seasons.{is_on}
use Rattle.season_days.proofs.season.Season.has_dates.Given as goal

abbrev pub invariant-loop-day : goal.invariant-loop-day
invariant-loop-day l = (k : ℕ) → l.period.first.0 ≤ k → k < l.day → is_on l.self l.period.days k ≡ false
