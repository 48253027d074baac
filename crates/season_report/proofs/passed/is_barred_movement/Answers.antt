use Rattle.std.proofs.Common.{◌≤◌, refl, sym, arith, length}
use Rattle.season_report.proofs.MovementLemmas.{held_true, clear_start, clear_more, clear_all, quota_settles}
use Rattle.season_report.proofs.passed.is_barred_movement.Goals as goal

pub loop-rule-init : goal.loop-rule-init
loop-rule-init c = clear_start c.args.windows.now c.args.movement c.args.counts.now c.args.limits.now

pub loop-rule-preserved : goal.loop-rule-preserved
loop-rule-preserved c =
    clear_more c.args.windows.now c.loop-rule.rule c.args.movement c.args.counts.now c.args.limits.now c.loop-rule.invariant (c.if-is_barred_by_run.ensures.none refl) (c.if-is_barred_by_run-2.ensures.none refl)

pub returns-then-is_barred_by_run : goal.returns-then-is_barred_by_run
returns-then-is_barred_by_run c = sym (held_true c.args.windows.now c.args.movement c.args.counts.now c.args.limits.now (c.if-is_barred_by_run.ensures.some refl))

pub returns-then-is_barred_by_run-2 : goal.returns-then-is_barred_by_run-2
returns-then-is_barred_by_run-2 c = sym (held_true c.args.windows.now c.args.movement c.args.counts.now c.args.limits.now (c.if-is_barred_by_run-2.ensures.some refl))

pub returns : goal.returns
returns c =
    let w = c.args.windows.now in
    let past : length w.rules ≤ c.loop-rule.rule = omega arith in
    quota_settles c.held_windows.ensures w c.args.movement c.args.counts.now c.args.limits.now c.is_barred_by_quota.result c.requires.keeps c.requires.minute c.requires.count
    (clear_all w c.loop-rule.rule c.args.movement c.args.counts.now c.args.limits.now past c.loop-rule.invariant) c.is_barred_by_quota.ensures.some c.is_barred_by_quota.ensures.none
