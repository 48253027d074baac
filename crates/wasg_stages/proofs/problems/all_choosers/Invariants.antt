use Rattle.std.proofs.Common.{◌≤◌, length, take}
use Rattle.std.specs.Prelude.{All}
use Rattle.std.specs.List.{AllZip}
use Rattle.capacity_windows.specs.Windows.{capacity_of, declared_resources}
use Rattle.choice_problem.specs.Problems.{ArePartsInRange}
use Rattle.wasg_stages.specs.StageProblems.{IsChooserOf}
use Rattle.wasg_stages.proofs.problems.all_choosers.Given as goal

abbrev pub invariant-loop-unit : goal.invariant-loop-unit
invariant-loop-unit l = record {
  units : AllZip (IsChooserOf l.declaration) (take l.unit-index l.units) l.choosers.items;
  range : All (ArePartsInRange (declared_resources (capacity_of l.declaration))) l.choosers.items;
  few : length l.choosers.items ≤ l.unit-index;
}
