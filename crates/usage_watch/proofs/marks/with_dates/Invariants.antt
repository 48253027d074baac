use Rattle.std.proofs.Common.{◌≡◌, ◌<◌, ◌||◌, false, ℕ, length, get_or}
use Rattle.season_days.specs.Periods.{is_date_of}
use Rattle.usage_watch.proofs.marks.with_dates.Given as goal

abbrev pub invariant-loop-day : goal.invariant-loop-day
invariant-loop-day l = record {
  count : length l.with.items ≡ l.day;
  marked : (day : ℕ) → day < l.day → get_or l.with.items day false ≡ (get_or l.marks day false || is_date_of l.season l.period day);
}
