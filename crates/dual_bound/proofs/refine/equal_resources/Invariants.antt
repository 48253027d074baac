use Rattle.std.proofs.Common.{ℕ, ◌<◌, ◌≤◌, length}
use Rattle.choice_problem.specs.Problems.{resource_count, limit_of}
use Rattle.dual_bound.specs.Classes.{IsByClass, IsUnitByClass, AreClasses, part_order}
use Rattle.dual_bound.proofs.refine.equal_resources.Given as goal

abbrev pub invariant-loop-unit : goal.invariant-loop-unit
invariant-loop-unit l = record {
  split : AreClasses (part_order l.unit 0) (resource_count l.problem) l.classes.items l.splits.items;
  enough : resource_count l.problem ≤ length l.splits.items;
  limits : IsByClass (resource_count l.problem) l.classes.items (λ r. limit_of l.problem r);
  units : (v : ℕ) → v < l.unit → IsUnitByClass l.problem v l.classes.items;
}
