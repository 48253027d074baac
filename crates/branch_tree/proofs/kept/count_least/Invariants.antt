use Rattle.std.proofs.Common.{◌≡◌, ℕ, ◌*◌, ◌<◌, ◌≤◌, length, slice_index}
use Rattle.finite_sums.specs.Sums.{sum_below}
use Rattle.choice_problem.specs.Splits.{least_uses}
use Rattle.branch_tree.specs.Walks.{AreLists}
use Rattle.branch_tree.proofs.kept.count_least.Given as goal

abbrev pub invariant-loop-unit : goal.invariant-loop-unit
invariant-loop-unit l = record {
  counted : (i : ℕ) → i < length l.listed → slice_index l.least i ≡ sum_below l.unit (λ u. least_uses l.problem l.ranges u (slice_index l.listed i));
  few : (i : ℕ) → i < length l.listed → slice_index l.least i ≤ l.unit * 434;
  lists_are : AreLists l.problem l.ranges l.listed l.unit l.lists.items;
  same : l.zeros ≡ l.fn.zeros;
}
