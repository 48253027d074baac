use Rattle.std.proofs.Common.{◌∙◌, arith}
use Rattle.series_model.proofs.OptionLemmas.{whole_line}
use Rattle.series_model.proofs.options.whole_shifts.Goals as goal

pub returns-clause-shifts : goal.returns-clause-shifts
returns-clause-shifts c =
    c.of.ensures.shifts
    ∙ whole_line c.args.declaration.now c.args.line.now.nights c.of_date-coming_in.result c.of_date-going_in.result c.args.line.now.arrival c.args.line.now.departure
    (omega (arith, c.of_date-coming_in.ensures.low)) (omega (arith, c.of_date-coming_in.ensures.high)) c.of_date-going_in.ensures.low c.of_date-going_in.ensures.high
