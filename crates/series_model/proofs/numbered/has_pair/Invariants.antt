use Rattle.std.proofs.Common.{◌≡◌, ◌+◌, ◌-◌}
use Rattle.std.specs.List.{list_any, flat_map}
use Rattle.series_model.specs.declared.times.Times.TheVariants.{At}
use Rattle.series_model.specs.Options.{are_same, pairs_at}
use Rattle.series_model.specs.Loops.{shifts_from, all_shifts}
use Rattle.series_model.proofs.numbered.has_pair.Given as goal

abbrev pub invariant-loop-other : goal.invariant-loop-other
invariant-loop-other l =
    list_any (are_same (At l.arrival l.departure)) (flat_map (pairs_at l.least (all_shifts l.departures)) (shifts_from l.arrivals l.from))
    ≡ list_any (are_same (At l.arrival l.departure)) (flat_map (pairs_at l.least (all_shifts l.departures)) (all_shifts l.arrivals))

abbrev pub decreases-loop-other : goal.decreases-loop-other
decreases-loop-other l = l.arrivals.high + 1 - l.from
