use Rattle.std.proofs.Common.{◌≡◌, ◌<◌, ◌≤◌, ℕ, true}
use Rattle.std.specs.Prelude.{Contains}
use Rattle.season_days.specs.Seasons.{is_on, dates_of}
use Rattle.season_days.proofs.season.Season.has_all_dates.Given as goal

abbrev pub invariant-loop-day : goal.invariant-loop-day
invariant-loop-day l = (k : ℕ) → l.asked.first.0 ≤ k → k < l.day → is_on l.self l.asked.days k ≡ true → (Contains (dates_of l.self l.held) k → ⊥) → ⊥
