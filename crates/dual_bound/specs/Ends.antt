-- Uses of resources by where runs begin and end.
use Rattle.std.specs.Prelude.{◌≡◌, ℕ, ◌+◌, ◌<◌, ◌≤◌, ◌^◌, List, length, slice_index}
use Rattle.finite_sums.specs.Sums.{sum_below}

-- how many runs begin at each place from 0 to n and how many end there, where the runs use the resources below n so often
pub record AreEnds (n : ℕ) (uses : ℕ → ℕ) (begins ends : List ℕ) : Type 0 where
  pub begin_count : length begins ≡ n + 1
  pub end_count : length ends ≡ n + 1
  pub balance : (r : ℕ) → r < n → sum_below (r + 1) (λ k. slice_index begins k)
      ≡ uses r + sum_below (r + 1) (λ k. slice_index ends k)
  pub few_begins : (r : ℕ) → r < n → slice_index begins r ≤ uses r
  pub few_ends : (r : ℕ) → r < n → slice_index ends (r + 1) ≤ uses r

-- runs are added to those that use the resources below n so often: then they use them more often by these uses, where the
-- sums fit 32 bits
abbrev pub AddEnds : List ℕ → List ℕ → List ℕ → List ℕ → (ℕ → ℕ) → Type 0
AddEnds begins ends begins' ends' more = (n : ℕ) (uses : ℕ → ℕ) → AreEnds n uses begins ends →
    ((r : ℕ) → r < n → uses r + more r < 2 ^ 32) →
    AreEnds n (λ r. uses r + more r) begins' ends'
