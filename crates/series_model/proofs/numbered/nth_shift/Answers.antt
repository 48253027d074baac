use Rattle.series_model.proofs.NumberedLemmas.{nth-found, nth-past}
use Rattle.series_model.proofs.numbered.nth_shift.Goals as goal

pub returns-then-number-more : goal.returns-then-number-more
returns-then-number-more c =
    nth-found c.args.shifts.now c.args.from c.in-Some.first c.last-last.result c.args.number c.requires c.in-Some.ensures.found c.in-Some.ensures.shift c.in-Some.ensures.within.1
    c.last-last.ensures.high c.last-last.ensures.late c.last-last.ensures.most c.if-number-more.true

pub returns-else-number-more : goal.returns-else-number-more
returns-else-number-more c =
    nth-past c.args.shifts.now c.args.from c.in-Some.first c.last-last.result c.args.number c.requires c.in-Some.ensures.found c.in-Some.ensures.shift c.in-Some.ensures.within.1
    c.last-last.ensures.high c.last-last.ensures.late c.last-last.ensures.most c.if-number-more.false
