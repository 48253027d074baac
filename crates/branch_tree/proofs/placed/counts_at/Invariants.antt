use Rattle.std.proofs.Common.{◌≡◌, ℕ, ◌<◌, length, slice_index}
use Rattle.branch_tree.proofs.placed.counts_at.Given as goal

abbrev pub invariant-loop-place : goal.invariant-loop-place
invariant-loop-place l = record {
  counted : length l.at.items ≡ l.place;
  each : (i : ℕ) → i < l.place → slice_index l.at.items i ≡ slice_index l.counts (slice_index l.listed i);
}
