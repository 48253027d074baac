-- Choices of one alternative for each unit, and which of them are feasible and least.
use Rattle.std.specs.Prelude.{◌≡◌, ℕ, ◌<◌, ◌≤◌, List, length, slice_index}
use Rattle.finite_sums.specs.Sums.{sum_below}
use Rattle.choice_problem.specs.Problems.{ProblemView, unit_count, alt_count, resource_count, alt_cost, alt_uses, limit_of}

-- one alternative for each unit
pub record IsChoice (p : ProblemView) (x : List ℕ) : Type 0 where
  pub length : length x ≡ unit_count p
  pub there : (u : ℕ) → u < unit_count p → slice_index x u < alt_count p u

-- the sum of the chosen alternatives' costs
abbrev pub choice_cost : ProblemView → List ℕ → ℕ
choice_cost p x = sum_below (unit_count p) (λ u. alt_cost p u (slice_index x u))

-- how often the chosen alternatives together use the resource
abbrev pub load_of : ProblemView → List ℕ → ℕ → ℕ
load_of p x r = sum_below (unit_count p) (λ u. alt_uses p u (slice_index x u) r)

-- no resource is used above its limit
abbrev pub Fits : ProblemView → List ℕ → Type 0
Fits p x = (r : ℕ) → r < resource_count p → load_of p x r ≤ limit_of p r

-- the lowest resource that is used above its limit
pub record IsFirstPassed (p : ProblemView) (x : List ℕ) (r : ℕ) : Type 0 where
  pub there : r < resource_count p
  pub passed : limit_of p r < load_of p x r
  pub first : (q : ℕ) → q < r → load_of p x q ≤ limit_of p q

pub record IsFeasible (p : ProblemView) (x : List ℕ) : Type 0 where
  pub choice : IsChoice p x
  pub fits : Fits p x

-- feasible, and no feasible choice costs less
pub record IsBest (p : ProblemView) (x : List ℕ) : Type 0 where
  pub feasible : IsFeasible p x
  pub least : (y : List ℕ) → IsFeasible p y → choice_cost p x ≤ choice_cost p y

-- no choice is feasible
abbrev pub HasNone : ProblemView → Type 0
HasNone p = (y : List ℕ) → IsFeasible p y → ⊥
