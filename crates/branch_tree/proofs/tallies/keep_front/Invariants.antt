use Rattle.std.proofs.Common.{◌≡◌, ℕ, ◌+◌, ◌<◌, ◌≤◌, min, length, slice_index, take}
use Rattle.branch_tree.specs.Lists.{times_in}
use Rattle.branch_tree.proofs.tallies.keep_front.Given as goal

abbrev pub invariant-loop-at : goal.invariant-loop-at
invariant-loop-at l = record {
  few : l.kept ≤ l.at;
  rest : (k : ℕ) → l.at ≤ k → k < length l.fn.list → slice_index l.list k ≡ slice_index l.fn.list k;
  kept_is : (r : ℕ) → times_in (take l.kept l.list) r ≡ min (times_in (take l.at l.fn.list) r) (slice_index l.fn.counts r);
  taken : (r : ℕ) → r < length l.fn.counts → slice_index l.fn.counts r ≡ slice_index l.counts r + times_in (take l.kept l.list) r;
}
