use Rattle.std.proofs.Common.{◌≡◌, ◌+◌, ◌-◌, ◌++◌}
use Rattle.std.specs.List.{flat_map}
use Rattle.series_model.specs.Options.{pairs_at}
use Rattle.series_model.specs.Loops.{shifts_from, all_shifts}
use Rattle.series_model.proofs.shifts.push_pairs.Given as goal

abbrev pub invariant-loop-arrival : goal.invariant-loop-arrival
invariant-loop-arrival l =
    l.options.items ++ flat_map (pairs_at l.least (all_shifts l.departures)) (shifts_from l.arrivals l.from)
    ≡ l.initial.options.items ++ flat_map (pairs_at l.least (all_shifts l.departures)) (all_shifts l.arrivals)

abbrev pub decreases-loop-arrival : goal.decreases-loop-arrival
decreases-loop-arrival l = l.arrivals.high + 1 - l.from
