use Rattle.scr_reader.proofs.PairLemmas.{onward_step, onward_end}
use Rattle.scr_reader.proofs.pairs.pair_rows.Goals as goal

pub loop-reading-preserved : goal.loop-reading-preserved
loop-reading-preserved c =
    onward_step c.args.rows.now c.args.first c.loop-reading.items.items c.push_item.new.items.items c.loop-reading.follows c.follows_next-follows.result c.loop-reading.number c.loop-reading.rest.now c.in-Some.after.now c.in-Some.reading.now
    c.item_at.result c.fault_at.result c.in-Some.ensures.cases.0 c.fault_at.ensures c.in_default-fault_at.is c.item_at.ensures c.in_ok-push_item.ensures.ok c.follows_next-follows.ensures c.loop-reading.invariant

pub returns-clause-found : goal.returns-clause-found
returns-clause-found c = onward_end c.args.rows.now c.args.first c.loop-reading.items.items c.loop-reading.follows c.loop-reading.number c.loop-reading.rest.now c.in_default.ensures.cases c.loop-reading.invariant
