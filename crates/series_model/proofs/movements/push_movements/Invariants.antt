use Rattle.std.proofs.Common.{◌≡◌, ◌-◌, ◌++◌}
use Rattle.std.specs.List.{filter, flat_map}
use Rattle.season_days.specs.Seasons.{is_on, days_from, dates_of}
use Rattle.series_model.specs.Movements.{movements_on}
use Rattle.series_model.proofs.movements.push_movements.Given as goal

abbrev pub invariant-loop-date : goal.invariant-loop-date
invariant-loop-date l =
    l.movements.items ++ flat_map (movements_on l.season l.line l.arrival l.departure) (filter (is_on l.season l.line.period.days) (days_from l.date (l.end - l.date)))
    ≡ l.initial.movements.items ++ flat_map (movements_on l.season l.line l.arrival l.departure) (dates_of l.season l.line.period)
