use Rattle.series_model.proofs.OptionLemmas.{pairs_line}
use Rattle.series_model.proofs.shifts.LineShifts.of.Goals as goal

pub returns-in-Some-Some-clause-shifts : goal.returns-in-Some-Some-clause-shifts
returns-in-Some-Some-clause-shifts c =
    pairs_line c.args.declaration.now c.args.line.now c.args.coming_in c.args.going_in c.in-Some-Some.coming c.in-Some-Some.going c.of-arrivals.result c.of-departures.result
    c.from-in-Some-Some.result c.minute_after-requested.result c.min-least.result c.in-Some-Some.is-0 c.in-Some-Some.is-1 c.from-in-Some-Some.ensures c.of-arrivals.ensures
    c.minute_after-requested.ensures c.of-departures.ensures c.min-least.ensures
