use Rattle.std.proofs.Common.{arith}
use Rattle.series_model.proofs.SpanLemmas.{first_shift, found_shift, no_shift, far_shift}
use Rattle.series_model.proofs.shifts.Shifts.first_from.Goals as goal

pub returns-then-from-last-clause-none : goal.returns-then-from-last-clause-none
returns-then-from-last-clause-none c =
    no_shift c.args.self.now c.args.from c.max-from.result c.last-last.result (omega (arith, c.max-from.ensures, c.saturating_sub.ensures)) c.last-last.ensures.most c.if-from-last.true

pub returns-then-gap-last-clause-none : goal.returns-then-gap-last-clause-none
returns-then-gap-last-clause-none c =
    far_shift c.args.self.now c.args.from c.max-from.result c.last-last.result c.gap_to-gap.result c.requires (omega (arith, c.max-from.ensures, c.saturating_sub.ensures))
    c.last-last.ensures.most c.if-from-last.false c.gap_to-gap.ensures.there c.gap_to-gap.ensures.first c.if-gap-last.true

pub returns-clause-found : goal.returns-clause-found
returns-clause-found c =
    first_shift c.args.self.now c.args.from c.max-from.result c.last-last.result c.gap_to-gap.result c.requires (omega (arith, c.max-from.ensures, c.saturating_sub.ensures))
    c.last-last.ensures.high c.last-last.ensures.late c.if-from-last.false c.gap_to-gap.ensures.there c.gap_to-gap.ensures.first c.if-gap-last.false

pub returns-clause-shift : goal.returns-clause-shift
returns-clause-shift c =
    found_shift c.args.self.now c.args.from c.max-from.result c.last-last.result c.gap_to-gap.result c.requires (omega (arith, c.max-from.ensures, c.saturating_sub.ensures))
    c.last-last.ensures.late c.if-from-last.false c.gap_to-gap.ensures.there c.if-gap-last.false
