-- Counts of the uses of alternatives of a problem.
use Rattle.std.specs.Prelude.{◌≡◌, ℕ, ◌+◌, ◌<◌, ◌≤◌, List, length, slice_index}
use Rattle.choice_problem.specs.Problems.{ProblemView, resource_count, limit_of}
use Rattle.choice_problem.specs.Choices.{load_of}

-- one count for each resource, none above its limit
pub record KeepsLimits (p : ProblemView) (counts : List ℕ) : Type 0 where
  pub length : length counts ≡ resource_count p
  pub within : (r : ℕ) → r < resource_count p → slice_index counts r ≤ limit_of p r

-- at each resource that is used further, count and further uses are together at most the limit
abbrev pub FitsBeside : ProblemView → List ℕ → (ℕ → ℕ) → Type 0
FitsBeside p counts uses = (r : ℕ) → r < resource_count p → 0 < uses r →
    slice_index counts r + uses r ≤ limit_of p r

-- each resource that is used further has room for one more use
abbrev pub FitsOnce : ProblemView → List ℕ → (ℕ → ℕ) → Type 0
FitsOnce p counts uses = (r : ℕ) → r < resource_count p → 0 < uses r →
    slice_index counts r + 1 ≤ limit_of p r

-- all counts are 0
abbrev pub AreZero : List ℕ → Type 0
AreZero counts = (r : ℕ) → r < length counts → slice_index counts r ≡ 0

-- the counts are what a choice uses
abbrev pub AreLoads : ProblemView → List ℕ → List ℕ → Type 0
AreLoads p x counts = (r : ℕ) → r < resource_count p → slice_index counts r ≡ load_of p x r
