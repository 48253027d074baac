-- Prices of strips and parts, by sums of the prices of the resources.
use Rattle.std.specs.Prelude.{◌≡◌, ℕ, ◌+◌, ◌-◌, ◌*◌, ◌<◌, ◌≤◌, ◌^◌, min, List, length, slice_index, sum_by}
use Rattle.choice_problem.specs.declared.problems.TheConstants.{MOST_RESOURCES}
use Rattle.choice_problem.specs.declared.vectors.Price.{Price}
use Rattle.choice_problem.specs.declared.strips.Strip.{Strip}
use Rattle.finite_sums.specs.Sums.{sum_below, first_least, least_within}
use Rattle.choice_problem.specs.Strips.{run_start}
use Rattle.choice_problem.specs.Problems.{ProblemView, resource_count}
use Rattle.choice_problem.specs.Bounds.{IsVector, low_of, high_of, priced, priced_cost}

-- one price below 2 ^ 40 for each resource
pub record ArePrices (p : ProblemView) (numbers : List ℕ) : Type 0 where
  pub count : length numbers ≡ resource_count p
  pub small : (r : ℕ) → r < resource_count p → slice_index numbers r < 2 ^ 40

-- uses at the prices that a function gives to the resources below n
abbrev pub worth : ℕ → (ℕ → ℕ) → (ℕ → ℕ) → ℕ
worth n price uses = sum_below n (λ r. price r * uses r)

-- one number for each resource, its price, such that all uses cost what they cost at the vector
pub record IsSpread (n : ℕ) (prices : List Price) (spread : List ℕ) : Type 0 where
  pub count : length spread ≡ n
  pub small : (r : ℕ) → r < n → slice_index spread r < 2 ^ 40
  pub same : (uses : ℕ → ℕ) → priced prices uses ≡ worth n (λ r. slice_index spread r) uses

-- at each place k the first k numbers, added up
pub record AreSums (numbers sums : List ℕ) : Type 0 where
  pub count : length sums ≡ length numbers + 1
  pub each : (k : ℕ) → k ≤ length numbers → slice_index sums k
      ≡ sum_below k (λ r. slice_index numbers r)

-- the same for the prices of a vector
pub record AreSumsOf (n : ℕ) (prices : List Price) (sums : List ℕ) : Type 0 where
  pub spread : List ℕ
  pub spread_is : IsSpread n prices spread
  pub sums_are : AreSums spread sums
  pub few : n ≤ MOST_RESOURCES

-- the prices of run i of a strip, of its runs, and of all strips of a part, by such sums
abbrev pub run_cost : List ℕ → Strip → ℕ → ℕ
run_cost sums s i = slice_index sums (run_start s i + s.width) - slice_index sums (run_start s i)

abbrev pub strip_cost : List ℕ → Strip → ℕ
strip_cost sums s = sum_below s.times (λ i. run_cost sums s i)

abbrev pub part_cost : List ℕ → List Strip → ℕ
part_cost sums strips = sum_by (λ s. strip_cost sums s) strips

-- the same where it fits 128 bits
abbrev pub capped_cost : List ℕ → List Strip → ℕ
capped_cost sums strips = min (part_cost sums strips) (2 ^ 128 - 1)

-- a vector for the problem, and the sums of its prices
pub record IsPricedBy (p : ProblemView) (prices : List Price) (sums : List ℕ) : Type 0 where
  pub vector : IsVector p prices
  pub sums_are : AreSumsOf (resource_count p) prices sums

-- the unit's first alternative in range that is least by the scaled cost and the uses at their prices
abbrev pub least_alt : ProblemView → List (ℕ × ℕ) → List Price → ℕ → ℕ → ℕ
least_alt p ranges prices scale u = first_least (low_of ranges u) (high_of ranges u)
    (λ a. priced_cost p prices scale u a)

-- that least
abbrev pub unit_least : ProblemView → List (ℕ × ℕ) → List Price → ℕ → ℕ → ℕ
unit_least p ranges prices scale u = least_within (low_of ranges u) (high_of ranges u)
    (λ a. priced_cost p prices scale u a)
