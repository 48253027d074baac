use Rattle.std.proofs.Common.{◌≡◌, drop}
use Rattle.desk_commands.specs.StageLines.{is_infeasible, some_mark}
use Rattle.desk_commands.proofs.stage_lines.some_infeasible.Given as goal

abbrev pub invariant-loop-stage : goal.invariant-loop-stage
invariant-loop-stage l = some_mark is_infeasible (drop l.stage-index l.stages) ≡ some_mark is_infeasible l.stages
