use Rattle.std.proofs.Common.{◌∙◌, arith}
use Rattle.series_model.proofs.OptionLemmas.{between_line}
use Rattle.series_model.proofs.options.shifts_between.Goals as goal

pub returns-clause-shifts : goal.returns-clause-shifts
returns-clause-shifts c =
    c.of.ensures.shifts
    ∙ between_line c.args.declaration.now c.args.request.now c.args.historic.now c.between-coming_in.result c.between-going_in.result c.requires.request c.requires.historic
    (omega (arith, c.between-coming_in.ensures.low, c.of_date.ensures.low, c.arrival_minute.ensures, c.arrival_minute-2.ensures))
    (omega (arith, c.between-coming_in.ensures.high, c.of_date.ensures.high, c.arrival_minute.ensures, c.arrival_minute-2.ensures))
    (omega (arith, c.between-going_in.ensures.low, c.of_date-2.ensures.low, c.departure_minute.ensures, c.departure_minute-2.ensures))
    (omega (arith, c.between-going_in.ensures.high, c.of_date-2.ensures.high, c.departure_minute.ensures, c.departure_minute-2.ensures))
