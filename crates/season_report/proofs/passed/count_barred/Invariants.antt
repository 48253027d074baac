use Rattle.std.proofs.Common.{◌≡◌, ◌+◌, ◌-◌, ◌≤◌}
use Rattle.std.specs.Prelude.{count_by}
use Rattle.std.specs.List.{list_any}
use Rattle.season_days.specs.Seasons.{is_on, dates_of}
use Rattle.series_model.specs.Movements.{movements_on}
use Rattle.season_report.specs.Reasons.{is_held_by}
use Rattle.season_report.specs.Private.{resources_above}
use Rattle.season_report.proofs.MovementLemmas.{passing}
use Rattle.season_report.proofs.passed.count_barred.Given as goal

abbrev pub invariant-loop-date : goal.invariant-loop-date
invariant-loop-date l = record {
  counted : l.count + passing (λ date. list_any (is_held_by l.windows (resources_above l.counts l.limits)) (movements_on l.windows.season l.line l.arrival l.departure date)) (is_on l.season l.line.period.days) l.date (l.line.period.last.0 + 1 - l.date)
      ≡ count_by (λ date. list_any (is_held_by l.windows (resources_above l.counts l.limits)) (movements_on l.windows.season l.line l.arrival l.departure date)) (dates_of l.season l.line.period);
  small : l.count ≤ l.date;
}
