use Rattle.std.proofs.Common.{◌≡◌, ◌≤◌, take}
use Rattle.std.specs.Prelude.{count_by}
use Rattle.desk_commands.specs.Inspections.{is_of_group}
use Rattle.desk_commands.proofs.inspection.group_count.Given as goal

abbrev pub invariant-loop-unit : goal.invariant-loop-unit
invariant-loop-unit l = record {
  counted : l.count ≡ count_by (is_of_group l.group) (take l.unit-index l.units);
  few : l.count ≤ l.unit-index;
}
