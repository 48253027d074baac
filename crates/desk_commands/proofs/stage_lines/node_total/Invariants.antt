use Rattle.std.proofs.Common.{◌≡◌, ◌≤◌, ◌+◌, ◌*◌, drop}
use Rattle.desk_commands.specs.StageLines.{node_total}
use Rattle.desk_commands.proofs.stage_lines.node_total.Given as goal

abbrev pub invariant-loop-stage : goal.invariant-loop-stage
invariant-loop-stage l = record {
  counted : l.total + node_total (drop l.stage-index l.stages) ≡ node_total l.stages;
  few : l.total ≤ 4294967296 * l.stage-index;
}
