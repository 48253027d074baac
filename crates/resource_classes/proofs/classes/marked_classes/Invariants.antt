use Rattle.std.proofs.Common.{◌<◌, All}
use Rattle.resource_classes.specs.Classes.{ArePicked}
use Rattle.resource_classes.specs.declared.classes.Class.{Class}
use Rattle.resource_classes.proofs.classes.marked_classes.Given as goal

abbrev pub invariant-loop-number : goal.invariant-loop-number
invariant-loop-number l = record {
  picked : ArePicked l.problem l.classes.items;
  below : All (λ (c : Class). c.resource < l.number) l.classes.items;
}
