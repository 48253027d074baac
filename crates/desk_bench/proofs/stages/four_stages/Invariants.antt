use Rattle.series_model.specs.Stages.{AreStates}
use Rattle.desk_bench.proofs.stages.four_stages.Given as goal

abbrev pub invariant-loop-stage : goal.invariant-loop-stage
invariant-loop-stage l = AreStates l.made l.states.items
