use Rattle.std.proofs.Common.{◌<◌, ◌≤◌, List, length, get_or, arith, rules, refl, subst, ◌∙◌}
use Rattle.std.proofs.lemmas.List.{take_all, length-set}
use Rattle.std.proofs.lemmas.List.Elements.{All-get_or}
use Rattle.choice_problem.specs.Counts.{GrowsBy}
use Rattle.report_lines.specs.declared.least.Used.{Used}
use Rattle.report_lines.specs.Private.{uses_in}
use Rattle.report_lines.proofs.LeastLemmas.{entry_room, entry_added}
use Rattle.report_lines.proofs.least.add_used.Goals as goal

pub overflow_add-loads : goal.overflow_add-loads
overflow_add-loads c =
    let used = c.args.used.now in
    let i = c.loop-one.one-index in
    let d : Used = record { resource = 0; uses = 0 } in
    let there = All-get_or (λ (one : Used). one.resource < length c.args.loads.now) used i d c.loop-one-test.true c.requires.there in
    let x = get_or used i d in
    omega (arith, entry_room used i d c.loop-one-test.true, c.loop-one.invariant.grown x.resource there, c.requires.room x.resource there)

pub loop-one-preserved : goal.loop-one-preserved
loop-one-preserved c =
    let used = c.args.used.now in
    let i = c.loop-one.one-index in
    let d : Used = record { resource = 0; uses = 0 } in
    let there = All-get_or (λ (one : Used). one.resource < length c.args.loads.now) used i d c.loop-one-test.true c.requires.there in
    record {
      count = length-set c.loop-one.loads _ _ ∙ c.loop-one.invariant.count;
      grown = entry_added c.args.loads.now c.loop-one.loads used i d _ c.loop-one-test.true (omega (arith, there, c.loop-one.invariant.count)) refl c.loop-one.invariant.grown;
    }

pub returns : goal.returns
returns c =
    let used = c.args.used.now in
    let past : length used ≤ c.loop-one.one-index = search rules in
    subst (λ (xs : List Used). GrowsBy c.args.loads.now c.loop-one.loads (uses_in xs)) (take_all c.loop-one.one-index used past) c.loop-one.invariant.grown
