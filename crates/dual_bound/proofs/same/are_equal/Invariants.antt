use Rattle.std.proofs.Common.{◌≡◌, ℕ, ◌<◌, length}
use Rattle.std.specs.Prelude.{slice_index_or}
use Rattle.dual_bound.proofs.same.are_equal.Given as goal

abbrev pub invariant-loop-place : goal.invariant-loop-place
invariant-loop-place l = record {
  count : length l.one ≡ length l.other;
  each : (n : ℕ) → n < l.place → slice_index_or l.one n (record { first = 0; width = 0; gap = 0; times = 0 }) ≡ slice_index_or l.other n (record { first = 0; width = 0; gap = 0; times = 0 });
}
