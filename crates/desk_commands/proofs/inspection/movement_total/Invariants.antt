use Rattle.std.proofs.Common.{◌≡◌, ◌≤◌, ◌*◌, take}
use Rattle.std.specs.Prelude.{sum_by}
use Rattle.desk_commands.specs.Inspections.{movement_count}
use Rattle.desk_commands.proofs.inspection.movement_total.Given as goal

abbrev pub invariant-loop-unit : goal.invariant-loop-unit
invariant-loop-unit l = record {
  summed : l.movements ≡ sum_by (movement_count l.season) (take l.unit-index l.units);
  few : l.movements ≤ 434 * l.unit-index;
}
