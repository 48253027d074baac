use Rattle.std.proofs.Common.{◌≡◌, ◌+◌, ◌≤◌, ◌==◌, length}
use Rattle.season_days.specs.Seasons.{is_on, weekday_on}
use Rattle.usage_watch.specs.Precedence.{is_operated, series_dates, operated_dates}
use Rattle.usage_watch.proofs.TallyLemmas.{dates_left, operated_left}
use Rattle.usage_watch.proofs.tally.Tally.of.Given as goal

abbrev pub invariant-loop-day : goal.invariant-loop-day
invariant-loop-day l = record {
  dates : l.tally.dates + dates_left (is_on l.reported.season l.line.period.days) (λ day. weekday_on l.reported.season day == l.weekday) (is_operated l.reported.season l.reported.reports l.line) l.day l.end
      ≡ length (series_dates l.reported.season l.line l.weekday);
  operated : l.tally.operated + operated_left (is_on l.reported.season l.line.period.days) (λ day. weekday_on l.reported.season day == l.weekday) (is_operated l.reported.season l.reported.reports l.line) l.day l.end
      ≡ length (operated_dates l.reported.season l.reported.reports l.line l.weekday);
  few : l.tally.dates ≤ l.day;
  most : l.tally.dates ≤ l.end;
  within : l.tally.operated ≤ l.tally.dates;
}
