use Rattle.season_report.proofs.MovementLemmas.{AreClear}
use Rattle.season_report.proofs.passed.is_barred_movement.Given as goal

abbrev pub invariant-loop-rule : goal.invariant-loop-rule
invariant-loop-rule l = AreClear l.windows l.rule l.movement l.counts l.limits
