use Rattle.std.proofs.Common.{length}
use Rattle.capacity_windows.proofs.NumberLemmas.{placed_at}
use Rattle.capacity_windows.proofs.LimitLemmas.{limit_small}
use Rattle.capacity_windows.proofs.windows.Windows.limits.Goals as goal

pub push_rule-requires-clause-windows : goal.push_rule-requires-clause-windows
push_rule-requires-clause-windows c = λ day start in_season lt.
    placed_at c.args.self.now c.rules-rule-items.result.now c.loop-rule.rule-index _ (length c.loop-rule.limits.items) day start c.rules-rule-items.ensures.items c.loop-rule-test.true c.loop-rule.invariant.count in_season lt

pub returns-clause-few : goal.returns-clause-few
returns-clause-few c = λ r. limit_small c.args.self.now c.args.self.now.rules r c.rules-rule-items.ensures.limits.rules c.rules-rule-items.ensures.limits.night
