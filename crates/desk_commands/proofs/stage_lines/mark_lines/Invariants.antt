use Rattle.std.proofs.Common.{◌≡◌, ◌+◌, ◌++◌, drop}
use Rattle.std.specs.String.{string_bytes}
use Rattle.desk_commands.specs.StageLines.{mark_lines}
use Rattle.desk_commands.proofs.stage_lines.mark_lines.Given as goal

abbrev pub invariant-loop-i : goal.invariant-loop-i
invariant-loop-i l = string_bytes l.text ++ mark_lines (l.i + 1) (drop l.i l.stages) ≡ mark_lines 1 l.stages
