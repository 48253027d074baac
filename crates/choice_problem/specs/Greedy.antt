-- The greedy choice: unit after unit is given its cheapest alternative beside which no limit is
-- passed.
use Rattle.std.specs.Prelude.{◌≡◌, ℕ, ◌+◌, ◌<◌, ◌≤◌, List, length, slice_index, Option, Some, None}
use Rattle.finite_sums.specs.Sums.{sum_below}
use Rattle.choice_problem.specs.Problems.{ProblemView, unit_count, alt_count, resource_count, alt_cost, alt_uses, limit_of}
use Rattle.choice_problem.specs.Choices.{choice_cost}

-- how often the first n units together use the resource
abbrev pub load_before : ProblemView → List ℕ → ℕ → ℕ → ℕ
load_before p x n r = sum_below n (λ u. alt_uses p u (slice_index x u) r)

-- alternative a of unit u fits on these loads
abbrev pub FitsOn : ProblemView → (ℕ → ℕ) → ℕ → ℕ → Type 0
FitsOn p loads u a = (r : ℕ) → r < resource_count p → loads r + alt_uses p u a r ≤ limit_of p r

-- of the unit's alternatives below n, the cheapest that fits on these loads, the lowest on ties
pub record IsBestBelow (p : ProblemView) (loads : ℕ → ℕ) (u n a : ℕ) : Type 0 where
  pub there : a < n
  pub fits : FitsOn p loads u a
  pub least : (b : ℕ) → b < n → FitsOn p loads u b → alt_cost p u a ≤ alt_cost p u b
  pub first : (b : ℕ) → b < a → FitsOn p loads u b → alt_cost p u a < alt_cost p u b

-- of all the unit's alternatives
abbrev pub IsGreedyAlt : ProblemView → (ℕ → ℕ) → ℕ → ℕ → Type 0
IsGreedyAlt p loads u a = IsBestBelow p loads u (alt_count p u) a

-- the first n units have chosen so
pub record IsGreedy (p : ProblemView) (n : ℕ) (x : List ℕ) : Type 0 where
  pub length : length x ≡ n
  pub each : (u : ℕ) → u < n → IsGreedyAlt p (λ r. load_before p x u r) u (slice_index x u)

-- some unit finds no alternative that fits with those before
pub record GreedyStops (p : ProblemView) (x : List ℕ) : Type 0 where
  pub before : IsGreedy p (length x) x
  pub there : length x < unit_count p
  pub none : (a : ℕ) → a < alt_count p (length x) → FitsOn p (λ r. load_before p x (length x) r)
      (length x) a → ⊥

-- the cost of the greedy choice, or none where there is no greedy choice
abbrev pub IsGreedyCost : ProblemView → Option ℕ → Type 0
IsGreedyCost p (Some g) = (x : List ℕ) × IsGreedy p (unit_count p) x × (choice_cost p x ≡ g)
IsGreedyCost p None = (x : List ℕ) × GreedyStops p x
