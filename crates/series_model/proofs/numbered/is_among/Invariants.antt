use Rattle.std.proofs.Common.{◌≡◌, ◌+◌, ◌-◌}
use Rattle.std.specs.Prelude.{◌==◌}
use Rattle.std.specs.List.{list_any}
use Rattle.series_model.specs.Loops.{shifts_from}
use Rattle.series_model.proofs.numbered.is_among.Given as goal

abbrev pub invariant-loop-other : goal.invariant-loop-other
invariant-loop-other l = list_any (λ other. l.minute == other) (shifts_from l.shifts l.from) ≡ list_any (λ other. l.minute == other) (shifts_from l.shifts l.initial.from)

abbrev pub decreases-loop-other : goal.decreases-loop-other
decreases-loop-other l = l.shifts.high + 1 - l.from
