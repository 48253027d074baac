use Rattle.std.proofs.Common.{◌≡◌, sym, ◌∙◌, subst}
use Rattle.price_table.specs.Private.Strided.{AreGapTotals}
use Rattle.price_table.proofs.StridedLemmas.{strided_cost-is}
use Rattle.price_table.proofs.strips.several_price.Goals as goal

pub returns-then-totals-sums-clause-cost : goal.returns-then-totals-sums-clause-cost
returns-then-totals-sums-clause-cost c =
    let sums = c.args.sums.now in
    let totals = c.args.totals.now in
    let same : c.args.strip.now.gap ≡ c.args.gap = c.if-strip-gap.true in
    let along : AreGapTotals sums totals c.args.strip.now.gap = subst (λ gap. AreGapTotals sums totals gap) (sym same) c.requires.totals in
    c.from.ensures ∙ c.strided_price.ensures ∙ strided_cost-is sums totals c.args.strip.now along c.if-totals-sums.true c.requires.some c.requires.there
