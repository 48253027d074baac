use Rattle.cost_fixing.proofs.StepLemmas.{but-set, answer-out}
use Rattle.cost_fixing.proofs.numbers.is_out.Goals as goal

pub returns-clause-whole : goal.returns-clause-whole
returns-clause-whole c =
    but-set c.args.problem.now c.args.unit c.args.totals.now.ranges c.set.new.self.ranges (c.args.alt, c.args.alt) c.requires.whole c.set.ensures.ranges

pub returns-clause-value : goal.returns-clause-value
returns-clause-value c =
    let p = c.args.problem.now in
    let prices = c.args.table.now.prices in
    answer-out p prices c.args.totals.now.scale c.args.cost c.args.unit c.args.alt c.args.totals.now.ranges c.set.new.self c.closes.result
    c.requires.whole c.set.ensures.ranges c.set.ensures.scale (c.closes.ensures p prices c.set.ensures.valid)
