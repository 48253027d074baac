use Rattle.std.proofs.Common.{◌≡◌, ◌+◌, ◌-◌, ◌≤◌, length}
use Rattle.std.specs.List.{filter}
use Rattle.season_days.specs.Seasons.{is_on, days_from}
use Rattle.season_days.proofs.season.Season.count_days.Given as goal

abbrev pub invariant-loop-day : goal.invariant-loop-day
invariant-loop-day l = record {
  counted : l.count + length (filter (is_on l.self l.days) (days_from l.day (l.end - l.day))) ≡ length (filter (is_on l.self l.days) (days_from l.first (l.end - l.first)));
  few : l.count ≤ l.day - l.first;
  most : l.count ≤ l.end - l.first;
}
