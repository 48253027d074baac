use Rattle.std.proofs.Common.{arith}
use Rattle.dual_bound.proofs.EndLemmas.{AreEnds-run}
use Rattle.dual_bound.proofs.loads.add_run.Goals as goal

pub returns-then-start-end : goal.returns-then-start-end
returns-then-start-end c = λ n uses h room.
    AreEnds-run n c.args.start c.args.end c.saturating_add.result c.saturating_add-then-start-end.result uses c.args.begins.now c.args.ends.now
    c.if-start-end.true (omega (arith, c.requires.within, h.begin_count)) c.saturating_add.ensures c.saturating_add-then-start-end.ensures room h
