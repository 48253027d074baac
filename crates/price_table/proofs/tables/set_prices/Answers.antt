use Rattle.choice_problem.specs.Bounds.{IsVector}
use Rattle.price_table.proofs.TableLemmas.{SpreadsFirst-none, SpreadsFirst-more}
use Rattle.price_table.proofs.tables.set_prices.Goals as goal

pub loop-entry-init : goal.loop-entry-init
loop-entry-init c = SpreadsFirst-none _ _ _ c.requires.count c.requires.empty

pub loop-entry-preserved : goal.loop-entry-preserved
loop-entry-preserved c =
    let items = c.items-entry-items.result.now in
    let vector : IsVector c.args.problem.now items = rw c.items-entry-items.ensures c.requires.vector in
    rw c.amount.ensures (SpreadsFirst-more c.args.problem.now c.loop-entry.entry-index items c.loop-entry.prices vector c.loop-entry-test.true c.loop-entry.invariant)
