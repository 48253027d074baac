use Rattle.std.proofs.Common.{◌≤◌, List, [], length, rules, subst, sym}
use Rattle.std.proofs.lemmas.List.{take_all}
use Rattle.report_lines.specs.declared.least.Used.{Used}
use Rattle.report_lines.specs.Private.{KeepsLesser}
use Rattle.report_lines.proofs.LeastLemmas.{lesser_none, lesser_more}
use Rattle.report_lines.proofs.least.lesser.Goals as goal

pub loop-one-init : goal.loop-one-init
loop-one-init c = subst (λ (kept : List Used). KeepsLesser c.args.counts.now [] kept) (sym c.new-kept.ensures.items) (lesser_none c.args.counts.now)

pub loop-one-preserved : goal.loop-one-preserved
loop-one-preserved c =
    lesser_more c.args.counts.now c.args.used.now c.loop-one.kept.items c.keep_lesser.new.kept.items c.loop-one.one-index _ c.loop-one-test.true c.requires c.loop-one.invariant c.in_ok-keep_lesser.ensures

pub returns : goal.returns
returns c =
    let used = c.args.used.now in
    let past : length used ≤ c.loop-one.one-index = search rules in
    subst (λ (xs : List Used). KeepsLesser c.args.counts.now xs c.loop-one.kept.items) (take_all c.loop-one.one-index used past) c.loop-one.invariant
