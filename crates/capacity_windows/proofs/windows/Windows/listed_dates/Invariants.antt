use Rattle.std.proofs.Common.{◌≡◌, ◌≤◌, ◌+◌, ◌&&◌}
use Rattle.std.specs.Prelude.{nat_lt}
use Rattle.season_days.specs.Seasons.{date_count}
use Rattle.finite_sums.specs.Sums.{count_below}
use Rattle.capacity_windows.specs.Bands.{is_date}
use Rattle.capacity_windows.proofs.windows.Windows.listed_dates.Given as goal

abbrev pub invariant-loop-day : goal.invariant-loop-day
invariant-loop-day l = record {
  counted : l.count ≡ count_below l.day (λ x. is_date l.self.season l.period x && nat_lt (x + l.later) (date_count l.self.season));
  few : l.count ≤ l.day;
}
