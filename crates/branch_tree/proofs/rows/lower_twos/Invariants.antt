use Rattle.std.proofs.Common.{◌≡◌, ℕ, ◌<◌, ◌≤◌, min, length, slice_index}
use Rattle.finite_sums.specs.Sums.{least_within}
use Rattle.branch_tree.specs.Lists.{times_in, AreWithin}
use Rattle.branch_tree.specs.Rows.{two_uses}
use Rattle.branch_tree.proofs.rows.lower_twos.Given as goal

abbrev pub invariant-loop-alt : goal.invariant-loop-alt
invariant-loop-alt l = record {
  above : (i : ℕ) → i < length l.listed →
      min (times_in l.list i) (least_within l.fn.row.first l.fn.row.last (λ a. two_uses l.problem l.unit a (slice_index l.listed i))) ≤ times_in l.twos.items i;
  known : (i : ℕ) → i < length l.listed → times_in l.twos.items i ≤ least_within l.from l.fn.row.last (λ a. two_uses l.problem l.unit a (slice_index l.listed i));
  tried : (a i : ℕ) → i < length l.listed → l.fn.row.first ≤ a → a < l.alt → times_in l.twos.items i ≤ two_uses l.problem l.unit a (slice_index l.listed i);
  within : AreWithin (length l.listed) l.twos.items;
  same : l.zeros ≡ l.fn.zeros;
}
