use Rattle.std.proofs.Common.{arith, rules}
use Rattle.season_report.proofs.LoadLemmas.{added_start, added_next, added_all}
use Rattle.season_report.proofs.loads.add_counts.Goals as goal

pub loop-at-init : goal.loop-at-init
loop-at-init c = added_start c.args.loads.now c.args.counts.now

pub loop-at-preserved : goal.loop-at-preserved
loop-at-preserved c =
    added_next c.args.loads.now c.loop-at.loads c.args.counts.now c.loop-at.at _ c.loop-at.invariant (omega (arith, c.loop-at-test.true, c.loop-at.invariant.length)) (search rules)

pub returns-clause-added : goal.returns-clause-added
returns-clause-added c =
    added_all c.args.loads.now c.loop-at.loads c.args.counts.now c.loop-at.at c.loop-at.invariant (omega (arith, c.loop-at-test.false, c.loop-at.invariant.length))
