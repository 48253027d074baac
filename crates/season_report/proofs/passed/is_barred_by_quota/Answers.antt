use Rattle.std.proofs.Common.{refl, arith}
use Rattle.season_report.proofs.MovementLemmas.{quota_there, quota_bars, quota_clear, no_quota}
use Rattle.season_report.proofs.passed.is_barred_by_quota.Goals as goal

pub is_barred_at-requires-clause-there : goal.is_barred_at-requires-clause-there
is_barred_at-requires-clause-there c =
    omega (arith, c.requires.count, quota_there c.args.windows.now c.in-Some.quota c.in-Some.ensures.none c.in-Some.ensures.number)

pub returns-in-Some-clause-some : goal.returns-in-Some-clause-some
returns-in-Some-clause-some c =
    quota_bars c.args.windows.now c.args.movement c.args.counts.now c.args.limits.now c.in-Some.quota c.is_barred_at.result
    (omega (arith, c.requires.count, quota_there c.args.windows.now c.in-Some.quota c.in-Some.ensures.none c.in-Some.ensures.number)) c.is_barred_at.ensures

pub returns-in-Some-clause-none : goal.returns-in-Some-clause-none
returns-in-Some-clause-none c =
    quota_clear c.args.windows.now c.args.movement c.args.counts.now c.args.limits.now c.in-Some.quota c.is_barred_at.result c.in-Some.ensures.number c.is_barred_at.ensures

pub returns-in-None-clause-none : goal.returns-in-None-clause-none
returns-in-None-clause-none c = λ no. no_quota c.args.windows.now c.args.movement c.args.counts.now c.args.limits.now (c.in-None.ensures.none.0 refl)
