use Rattle.std.proofs.Common.{◌≡◌, drop}
use Rattle.desk_commands.specs.Services.{is_full_end, some_ended}
use Rattle.desk_commands.proofs.service_lines.some_full.Given as goal

abbrev pub invariant-loop-work : goal.invariant-loop-work
invariant-loop-work l = some_ended is_full_end (drop l.work-index l.works) ≡ some_ended is_full_end l.works
