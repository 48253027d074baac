use Rattle.std.proofs.Common.{◌≡◌, ◌+◌, ◌-◌, ◌++◌, map}
use Rattle.series_model.specs.Loops.{shifts_from}
use Rattle.series_model.specs.declared.times.Times.TheVariants.{At}
use Rattle.series_model.proofs.shifts.push_departures.Given as goal

abbrev pub invariant-loop-departure : goal.invariant-loop-departure
invariant-loop-departure l =
    l.options.items ++ map (λ departure. At l.arrival departure) (shifts_from l.departures l.from) ≡ l.initial.options.items ++ map (λ departure. At l.arrival departure) (shifts_from l.departures l.initial.from)

abbrev pub decreases-loop-departure : goal.decreases-loop-departure
decreases-loop-departure l = l.departures.high + 1 - l.from
