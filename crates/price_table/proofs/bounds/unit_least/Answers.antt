use Rattle.std.proofs.Common.{◌∙◌}
use Rattle.choice_problem.specs.Bounds.{low_of, high_of}
use Rattle.price_table.proofs.BoundLemmas.{least_within-priced, PricesUnit-priceable}
use Rattle.price_table.proofs.bounds.unit_least.Goals as goal

pub first_least-requires-clause-priceable : goal.first_least-requires-clause-priceable
first_least-requires-clause-priceable c =
    let p = c.args.problem.now in
    let u = c.args.unit in
    let t = c.args.table.now in
    rw (c.unit_alts-alts.ensures.value, c.unit.ensures) (PricesUnit-priceable p t.prices u _ c.requires.table.vector c.requires.table.few_resources c.unit_alts-alts.ensures.valid (c.requires.table.each u c.requires.unit))

pub returns-clause-value : goal.returns-clause-value
returns-clause-value c =
    let u = c.args.unit in
    let ranges = c.args.ranges.now in
    rw (c.low.ensures, c.high.ensures, c.unit_alts-alts.ensures.value, c.unit.ensures) at c.first_least.ensures.cost
    ∙ least_within-priced c.args.problem.now c.args.table.now.prices u c.args.scale (low_of ranges u) (high_of ranges u) _
    (c.requires.table.each u c.requires.unit) (c.requires.ranges.ordered u c.requires.unit) (c.requires.ranges.there u c.requires.unit)
