use Rattle.std.proofs.Common.{◌≡◌, ◌≤◌, ◌+◌, ◌*◌, drop}
use Rattle.desk_commands.specs.Services.{links_total}
use Rattle.desk_commands.proofs.service_lines.links_total.Given as goal

abbrev pub invariant-loop-work : goal.invariant-loop-work
invariant-loop-work l = record {
  counted : l.total + links_total (drop l.work-index l.works) ≡ links_total l.works;
  few : l.total ≤ 4294967296 * l.work-index;
}
