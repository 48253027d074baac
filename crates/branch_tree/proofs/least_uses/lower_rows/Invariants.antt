use Rattle.std.proofs.Common.{◌≡◌, ℕ, ◌+◌, ◌<◌, ◌≤◌, length, slice_index}
use Rattle.finite_sums.specs.Sums.{least_within}
use Rattle.choice_problem.specs.Problems.{alt_count, alt_uses}
use Rattle.branch_tree.specs.Lists.{times_in, AreWithin}
use Rattle.branch_tree.specs.Rows.{AreLeastTwos}
use Rattle.branch_tree.proofs.least_uses.lower_rows.Given as goal

abbrev pub invariant-loop-done : goal.invariant-loop-done
invariant-loop-done l = record {
  from : l.low ≤ l.done;
  to : l.done ≤ l.high + 1;
  ordered : l.row.first ≤ l.row.last;
  there : l.row.last < alt_count l.problem l.unit;
  twos_are : AreLeastTwos l.problem l.listed l.unit l.row.first l.row.last l.list.items l.twos.items;
  twos_within : AreWithin (length l.listed) l.twos.items;
  above : (i : ℕ) → i < length l.listed → least_within l.low l.high (λ a. alt_uses l.problem l.unit a (slice_index l.listed i)) ≤ times_in l.list.items i;
  first : (i : ℕ) → i < length l.listed → times_in l.list.items i ≤ alt_uses l.problem l.unit l.low (slice_index l.listed i);
  tried : (a i : ℕ) → i < length l.listed → l.done ≤ a → a ≤ l.high → times_in l.list.items i ≤ alt_uses l.problem l.unit a (slice_index l.listed i);
  within : AreWithin (length l.listed) l.list.items;
  same : l.zeros ≡ l.fn.zeros;
}

abbrev pub decreases-loop-done : goal.decreases-loop-done
decreases-loop-done l = l.done
