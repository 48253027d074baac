use Rattle.std.proofs.Common.{◌≡◌, ◌+◌, ◌-◌, ◌++◌, map}
use Rattle.series_model.specs.Loops.{shifts_from, all_shifts}
use Rattle.series_model.specs.declared.times.Times.TheVariants.{At}
use Rattle.series_model.proofs.shifts.push_arrivals.Given as goal

abbrev pub invariant-loop-arrival : goal.invariant-loop-arrival
invariant-loop-arrival l =
    l.options.items ++ map (λ arrival. At arrival 0) (shifts_from l.arrivals l.from) ≡ l.initial.options.items ++ map (λ arrival. At arrival 0) (all_shifts l.arrivals)

abbrev pub decreases-loop-arrival : goal.decreases-loop-arrival
decreases-loop-arrival l = l.arrivals.high + 1 - l.from
