use Rattle.std.proofs.Common.{◌≡◌, ◌≤◌, ◌*◌, take}
use Rattle.std.specs.Prelude.{sum_by}
use Rattle.desk_commands.specs.Inspections.{unit_dates}
use Rattle.desk_commands.proofs.inspection.date_total.Given as goal

abbrev pub invariant-loop-unit : goal.invariant-loop-unit
invariant-loop-unit l = record {
  summed : l.dates ≡ sum_by (unit_dates l.season) (take l.unit-index l.units);
  few : l.dates ≤ 217 * l.unit-index;
}
