use Rattle.std.proofs.Common.{◌≡◌, ℕ, ◌*◌, ◌≤◌, ◌^◌}
use Rattle.std.specs.Prelude.{slice_index}
use Rattle.finite_sums.specs.Sums.{sum_below}
use Rattle.price_table.proofs.strips.add_up.Given as goal

abbrev pub invariant-loop-place : goal.invariant-loop-place
invariant-loop-place l = record {
  total : l.total ≡ sum_below l.place (λ r. slice_index l.numbers r);
  small : l.total ≤ l.place * 2 ^ 40;
  each : (k : ℕ) → k ≤ l.place → slice_index l.sums k ≡ sum_below k (λ r. slice_index l.numbers r);
}
