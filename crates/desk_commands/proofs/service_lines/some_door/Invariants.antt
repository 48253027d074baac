use Rattle.std.proofs.Common.{◌≡◌, drop}
use Rattle.desk_commands.specs.Services.{is_door_end, some_ended}
use Rattle.desk_commands.proofs.service_lines.some_door.Given as goal

abbrev pub invariant-loop-work : goal.invariant-loop-work
invariant-loop-work l = some_ended is_door_end (drop l.work-index l.works) ≡ some_ended is_door_end l.works
