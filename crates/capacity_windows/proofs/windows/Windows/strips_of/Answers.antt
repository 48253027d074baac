use Rattle.std.proofs.Common.{◌≡◌, ◌≤◌, arith, ap, sym, ◌∙◌, List, length}
use Rattle.std.proofs.lemmas.Grind.{common_steps}
use Rattle.choice_problem.specs.declared.strips.Strip.{Strip}
use Rattle.choice_problem.specs.Strips.{part_uses}
use Rattle.capacity_windows.specs.Windows.{window_load, stop_movements, declared_resources, rule_strips, most_strips}
use Rattle.capacity_windows.proofs.NumberLemmas.{room_for}
use Rattle.capacity_windows.proofs.RangeLemmas.{in_range, load_past}
use Rattle.capacity_windows.proofs.RestLemmas.{rest_step, rest_none}
use Rattle.capacity_windows.proofs.OnceLemmas.{once}
use Rattle.capacity_windows.proofs.FewLemmas.{few_listed, few_more, few_in_all, few_ever}
use Rattle.capacity_windows.proofs.windows.Windows.strips_of.Goals as goal

pub loop-rule-preserved : goal.loop-rule-preserved
loop-rule-preserved c = record {
  number = grind (arith, common_steps);
  uses = λ r. rest_step c.args.self.now c.rules-rule-items.result.now c.loop-rule.rule-index _ c.loop-rule.first c.windows_of-first.result (stop_movements c.args.self.now c.args.kind c.args.minute c.args.later c.args.period) r _ _ _ c.loop-rule-test.true c.windows_of-first.ensures (c.in_ok-add_rule.ensures.uses r) (c.loop-rule.invariant.uses r);
  wide = c.in_ok-add_rule.ensures.wide;
  few = few_more (rule_strips c.args.kind c.args.period) _ _ c.loop-rule.rule-index c.rules-rule-items.result.now _ c.loop-rule-test.true c.loop-rule.invariant.few c.in_ok-add_rule.ensures.few;
}

pub returns-clause-uses : goal.returns-clause-uses
returns-clause-uses c = λ r.
    ap (λ (strips : List Strip). part_uses strips r) c.new.ensures
    ∙ rest_none c.args.self.now c.rules-rule-items.result.now c.loop-rule.rule-index c.loop-rule.first (stop_movements c.args.self.now c.args.kind c.args.minute c.args.later c.args.period) r _ _ _ c.loop-rule-test.false (c.in_ok-add_night.ensures.uses r) (c.loop-rule.invariant.uses r)

pub add_rule-requires-clause-room : goal.add_rule-requires-clause-room
add_rule-requires-clause-room c = room_for c.args.self.now c.rules-rule-items.result.now c.loop-rule.rule-index _ c.loop-rule.first c.rules-rule-items.ensures.limits c.rules-rule-items.ensures.items c.loop-rule-test.true c.loop-rule.invariant.number

pub returns-clause-range : goal.returns-clause-range
returns-clause-range c =
    let self = c.args.self.now in
    rw c.new.ensures
    (in_range c.add_night.new.strips.items (declared_resources self) c.in_ok-add_night.ensures.wide (λ r past.
    ap (λ (strips : List Strip). part_uses strips r) (sym c.new.ensures) ∙ returns-clause-uses c r ∙ load_past self (stop_movements self c.args.kind c.args.minute c.args.later c.args.period) r past))

pub returns-clause-few_uses : goal.returns-clause-few_uses
returns-clause-few_uses c = λ r.
    let self = c.args.self.now in
    let uses : part_uses c.new.result r ≡ window_load self (stop_movements self c.args.kind c.args.minute c.args.later c.args.period) r = returns-clause-uses c r in
    omega (arith, uses, few_listed self c.args.kind c.args.minute c.args.later c.args.period r c.requires.last c.rules-rule-items.ensures.few)

pub returns-clause-few : goal.returns-clause-few
returns-clause-few c =
    rw c.new.ensures
    (few_in_all (rule_strips c.args.kind c.args.period) _ _ c.loop-rule.rule-index c.rules-rule-items.result.now c.args.self.now.rules c.loop-rule.invariant.few c.rules-rule-items.ensures.items c.in_ok-add_night.ensures.few)

pub returns-clause-few_ever : goal.returns-clause-few_ever
returns-clause-few_ever c =
    let few : length c.new.result ≤ most_strips c.args.self.now c.args.kind c.args.period = returns-clause-few c in
    omega (arith, few, few_ever c.args.self.now c.args.kind c.args.period)

pub returns-clause-once : goal.returns-clause-once
returns-clause-once c = λ r lt.
    let self = c.args.self.now in
    let uses : part_uses c.new.result r ≡ window_load self (stop_movements self c.args.kind c.args.minute c.args.later c.args.period) r = returns-clause-uses c r in
    omega (arith, uses, once self c.args.kind c.args.minute c.args.later c.args.period self.rules r c.rules-rule-items.ensures.limits.rules lt)
