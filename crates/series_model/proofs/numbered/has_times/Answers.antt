use Rattle.std.proofs.Common.{sym, ap, ◌∙◌}
use Rattle.std.specs.List.{list_any}
use Rattle.series_model.specs.declared.shifts.LineShifts.{LineShifts}
use Rattle.series_model.specs.declared.times.Times.TheVariants.{At}
use Rattle.series_model.specs.Options.{are_same}
use Rattle.series_model.specs.Loops.{all_shifts, line_shifts}
use Rattle.series_model.proofs.NumberedLemmas.{any-arrivals, any-departures}
use Rattle.series_model.proofs.numbered.has_times.Goals as goal

pub returns-in-Arrivals : goal.returns-in-Arrivals
returns-in-Arrivals c =
    c.is_with.ensures ∙ sym (any-arrivals c.args.arrival c.args.departure 0 (all_shifts c.in-Arrivals.arrivals))
    ∙ ap (λ (s : LineShifts). list_any (are_same (At c.args.arrival c.args.departure)) (line_shifts s)) (sym c.in-Arrivals.is)

pub returns-in-Departures : goal.returns-in-Departures
returns-in-Departures c =
    c.is_with-in-Departures.ensures ∙ sym (any-departures c.args.arrival c.args.departure 0 (all_shifts c.in-Departures.departures))
    ∙ ap (λ (s : LineShifts). list_any (are_same (At c.args.arrival c.args.departure)) (line_shifts s)) (sym c.in-Departures.is)
