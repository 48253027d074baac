-- Where a search splits ranges, and which ranges it splits.
use Rattle.std.specs.Prelude.{◌≡◌, ℕ, ◌+◌, ◌<◌, ◌≤◌, List, [], length, slice_index, nat_lt, if◌then◌else◌, Option}
use Rattle.choice_problem.specs.declared.closing.TheConstants.{PRICED_SCALE}
use Rattle.choice_problem.specs.declared.vectors.Price.{Price}
use Rattle.finite_sums.specs.Sums.{least_within, IsFirstLeast}
use Rattle.choice_problem.specs.Problems.{ProblemView, unit_count, resource_count, alt_cost, alt_uses}
use Rattle.choice_problem.specs.Choices.{IsFirstPassed}
use Rattle.choice_problem.specs.Bounds.{low_of, high_of, Closes, IsOver}

-- the first cheapest alternative of a unit in its range
abbrev pub IsFirstCheapest : ProblemView → List (ℕ × ℕ) → ℕ → ℕ → Type 0
IsFirstCheapest p ranges u a =
    IsFirstLeast (low_of ranges u) (high_of ranges u) (λ b. alt_cost p u b) a

-- the choice of each unit's first cheapest alternative
pub record IsCheapest (p : ProblemView) (ranges : List (ℕ × ℕ)) (x : List ℕ) : Type 0 where
  pub length : length x ≡ unit_count p
  pub each : (u : ℕ) → u < unit_count p → IsFirstCheapest p ranges u (slice_index x u)

-- the lowest resource whose least load is above its limit
pub record IsFirstOver (p : ProblemView) (ranges : List (ℕ × ℕ)) (r : ℕ) : Type 0 where
  pub there : r < resource_count p
  pub over : IsOver p ranges r
  pub first : (q : ℕ) → q < r → IsOver p ranges q → ⊥

-- what closes no leaf at a visit: an over leaf, the zero vector at scale 1, the root vector at scale 1024
pub record StaysOpen (p : ProblemView) (root : List Price) (ranges : List (ℕ × ℕ))
    (seen : Option ℕ) : Type 0 where
  pub none_over : (r : ℕ) → r < resource_count p → IsOver p ranges r → ⊥
  pub no_zero : Closes p ranges [] 1 seen → ⊥
  pub no_root : Closes p ranges root PRICED_SCALE seen → ⊥

-- the least uses of a resource by a unit in its range
abbrev pub least_uses : ProblemView → List (ℕ × ℕ) → ℕ → ℕ → ℕ
least_uses p ranges u r = least_within (low_of ranges u) (high_of ranges u) (λ a. alt_uses p u a r)

-- where a range is cut at an alternative: below it, or above it where it is the lowest
abbrev pub cut_at : ℕ → ℕ → ℕ
cut_at low a = if nat_lt low a then a else a + 1

-- the split rule: at the lowest resource that the choice uses above its limit, the lowest unit that uses it more often than
-- some alternative in its range does
pub record IsSplitAt (p : ProblemView) (ranges : List (ℕ × ℕ)) (x : List ℕ)
    (r unit cut : ℕ) : Type 0 where
  pub passed : IsFirstPassed p x r
  pub there : unit < unit_count p
  pub more : least_uses p ranges unit r < alt_uses p unit (slice_index x unit) r
  pub first : (u : ℕ) → u < unit → alt_uses p u (slice_index x u) r ≤ least_uses p ranges u r
  pub place : cut ≡ cut_at (low_of ranges unit) (slice_index x unit)
