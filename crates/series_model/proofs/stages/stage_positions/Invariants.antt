use Rattle.std.proofs.Common.{◌≡◌, ◌++◌, drop}
use Rattle.series_model.specs.Stages.{positions_from}
use Rattle.series_model.proofs.stages.stage_positions.Given as goal

abbrev pub invariant-loop-i : goal.invariant-loop-i
invariant-loop-i l = l.positions.items ++ positions_from l.stage l.i (drop l.i l.states) ≡ positions_from l.stage 0 l.states
