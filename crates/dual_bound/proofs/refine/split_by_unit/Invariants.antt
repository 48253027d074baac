use Rattle.std.proofs.Common.{ℕ, ◌<◌, ◌≤◌, length}
use Rattle.choice_problem.specs.Strips.{part_uses}
use Rattle.choice_problem.specs.Problems.{chooser_at, part_at, resource_count}
use Rattle.dual_bound.specs.Classes.{IsByClass, AreClasses, part_order}
use Rattle.dual_bound.proofs.refine.split_by_unit.Given as goal

abbrev pub invariant-loop-number : goal.invariant-loop-number
invariant-loop-number l = record {
  split : AreClasses (part_order l.unit l.number) (resource_count l.problem) l.classes l.splits.items;
  more : length l.fn.splits.items ≤ length l.splits.items;
  kept : (f : ℕ → ℕ) → IsByClass (resource_count l.problem) l.fn.classes f → IsByClass (resource_count l.problem) l.classes f;
  shared : (k : ℕ) → k < l.number → IsByClass (resource_count l.problem) l.classes (λ r. part_uses (part_at (chooser_at l.problem l.unit) k) r);
}
