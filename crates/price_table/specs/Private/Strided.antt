-- Totals of numbers along a gap, and what a strip costs by them.
use Rattle.std.specs.Prelude.{◌≡◌, ℕ, ◌+◌, ◌-◌, ◌<◌, ◌≤◌, List, length, slice_index}
use Rattle.choice_problem.specs.declared.strips.Strip.{Strip}
use Rattle.choice_problem.specs.Strips.{run_start}

-- at each place the number there and the total one gap further on, which is 0 past the end
abbrev pub IsTotalled : List ℕ → List ℕ → ℕ → Type 0
IsTotalled numbers totals gap = (k : ℕ) → slice_index totals k
    ≡ slice_index numbers k + slice_index totals (k + gap)

-- sums that do not fall, and totals of them along a gap, if there is one for each
pub record AreGapTotals (sums totals : List ℕ) (gap : ℕ) : Type 0 where
  pub rising : (i j : ℕ) → i ≤ j → j < length sums → slice_index sums i ≤ slice_index sums j
  pub totalled : length totals ≡ length sums → IsTotalled sums totals gap

-- the totals at the ends of a strip's runs, each less the one past the last run, less those at their starts
abbrev pub strided_cost : List ℕ → Strip → ℕ
strided_cost totals s =
    (slice_index totals (run_start s 0 + s.width) - slice_index totals (run_start s s.times + s.width))
    - (slice_index totals (run_start s 0) - slice_index totals (run_start s s.times))
