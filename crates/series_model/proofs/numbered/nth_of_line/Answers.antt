use Rattle.std.proofs.Common.{sym, ap, ◌∙◌}
use Rattle.series_model.specs.declared.shifts.LineShifts.{LineShifts}
use Rattle.series_model.specs.Loops.{all_shifts, line_shifts, numbered}
use Rattle.series_model.proofs.numbered.nth_of_line.Goals as goal

pub returns-in-Arrivals : goal.returns-in-Arrivals
returns-in-Arrivals c =
    c.at_arrival.ensures (all_shifts c.in-Arrivals.arrivals) c.args.number c.nth_shift.ensures ∙ ap (λ (s : LineShifts). numbered (line_shifts s) c.args.number) (sym c.in-Arrivals.is)

pub returns-in-Departures : goal.returns-in-Departures
returns-in-Departures c =
    c.at_departure.ensures (all_shifts c.in-Departures.departures) c.args.number c.nth_shift-in-Departures.ensures ∙ ap (λ (s : LineShifts). numbered (line_shifts s) c.args.number) (sym c.in-Departures.is)
