use Rattle.std.proofs.Common.{arith}
use Rattle.season_report.proofs.MovementLemmas.{run_bars, run_clear}
use Rattle.season_report.proofs.passed.is_barred_by_run.Goals as goal

pub returns-clause-some : goal.returns-clause-some
returns-clause-some c =
    run_bars c.args.windows.now c.args.movement c.args.counts.now c.args.limits.now c.from.result c.from-2.result c.held_run-start.result.0 c.held_run-start.result.1 c.lowest_in_run-lowest.result c.is_some.result
    c.from.ensures c.from-2.ensures c.is_some.ensures c.lowest_in_run-lowest.ensures c.held_run-start.ensures.held

pub returns-clause-none : goal.returns-clause-none
returns-clause-none c =
    run_clear c.args.windows.now c.args.rule c.args.ago c.args.movement c.args.counts.now c.args.limits.now c.from.result c.from-2.result c.held_run-start.result.0 c.held_run-start.result.1 c.lowest_in_run-lowest.result c.is_some.result
    c.from.ensures c.from-2.ensures c.is_some.ensures c.lowest_in_run-lowest.ensures c.held_run-start.ensures.run (omega (arith, c.held_run-start.ensures.there, c.requires.count))
