use Rattle.std.proofs.Common.{◌≡◌, ℕ, ◌<◌, ◌*◌, ◌^◌, length}
use Rattle.std.specs.Prelude.{slice_index}
use Rattle.dual_bound.proofs.classes.weighted.Given as goal

abbrev pub invariant-loop-class : goal.invariant-loop-class
invariant-loop-class l = record {
  count : length l.weighted.items ≡ l.class;
  each : (c : ℕ) → c < l.class → slice_index l.weighted.items c ≡ slice_index l.sizes c * slice_index l.prices c;
  small : (c : ℕ) → c < l.class → slice_index l.weighted.items c < 2 ^ 40;
}
