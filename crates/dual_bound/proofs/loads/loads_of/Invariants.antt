use Rattle.std.proofs.Common.{◌≡◌, ℕ, ◌+◌, ◌<◌, ◌^◌, length}
use Rattle.std.specs.Prelude.{slice_index}
use Rattle.finite_sums.specs.Sums.{sum_below}
use Rattle.dual_bound.specs.Ends.{AreEnds}
use Rattle.dual_bound.proofs.loads.loads_of.Given as goal

abbrev pub invariant-loop-at : goal.invariant-loop-at
invariant-loop-at l = record {
  count : length l.loads.items ≡ l.at;
  each : (uses : ℕ → ℕ) → AreEnds l.resources uses l.begins l.ends → ((r : ℕ) → r < l.resources → uses r < 2 ^ 31) →
      (r : ℕ) → r < l.at → slice_index l.loads.items r ≡ uses r;
  here : (uses : ℕ → ℕ) → AreEnds l.resources uses l.begins l.ends → ((r : ℕ) → r < l.resources → uses r < 2 ^ 31) →
      sum_below l.at (λ k. slice_index l.begins k) ≡ l.load + sum_below l.at (λ k. slice_index l.ends k);
  small : (uses : ℕ → ℕ) → AreEnds l.resources uses l.begins l.ends → ((r : ℕ) → r < l.resources → uses r < 2 ^ 31) → l.load < 2 ^ 31;
}
