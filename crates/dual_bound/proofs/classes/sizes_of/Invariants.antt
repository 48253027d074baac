use Rattle.std.proofs.Common.{◌≡◌, ℕ, ◌<◌, length}
use Rattle.std.specs.Prelude.{slice_index, nat_eq}
use Rattle.finite_sums.specs.Sums.{count_below}
use Rattle.dual_bound.proofs.classes.sizes_of.Given as goal

abbrev pub invariant-loop-class : goal.invariant-loop-class
invariant-loop-class l = record {
  count : length l.sizes.items ≡ l.count;
  each : (c : ℕ) → c < l.count → slice_index l.sizes.items c ≡ count_below l.class-index (λ r. nat_eq (slice_index l.classes r) c);
}
