use Rattle.std.proofs.Common.{◌≡◌, ◌+◌, ◌-◌}
use Rattle.std.specs.List.{flat_map}
use Rattle.series_model.specs.Options.{pairs_at}
use Rattle.series_model.specs.Loops.{shifts_from, all_shifts, numbered}
use Rattle.series_model.proofs.numbered.nth_pair.Given as goal

abbrev pub invariant-loop-arrival : goal.invariant-loop-arrival
invariant-loop-arrival l =
    numbered (flat_map (pairs_at l.least (all_shifts l.departures)) (shifts_from l.arrivals l.from)) l.left
    ≡ numbered (flat_map (pairs_at l.least (all_shifts l.departures)) (all_shifts l.arrivals)) l.number

abbrev pub decreases-loop-arrival : goal.decreases-loop-arrival
decreases-loop-arrival l = l.arrivals.high + 1 - l.from
