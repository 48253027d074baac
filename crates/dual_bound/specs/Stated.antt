-- Floors of ranges: whole numbers of cost that no feasible choice within them is below.
use Rattle.std.specs.Prelude.{◌≡◌, ℕ, zero, suc, ◌+◌, ◌-◌, ◌/◌, ◌^◌, ◌<◌, ◌≤◌, min, ℤ, pos, negsuc, List, [], length}
use Rattle.choice_problem.specs.declared.closing.TheConstants.{PRICED_SCALE}
use Rattle.choice_problem.specs.declared.vectors.Price.{Price}
use Rattle.choice_problem.specs.Problems.{ProblemView}
use Rattle.choice_problem.specs.Bounds.{least_total, bound_of}
use Rattle.choice_problem.specs.Trees.{vector_at}

-- the bound of the vector without prices at scale 1: the sum of the least costs
abbrev pub zero_floor : ProblemView → List (ℕ × ℕ) → ℕ
zero_floor p ranges = least_total p ranges [] 1

-- the least whole number that is at least a bound at scale 1024 divided by 1024; 0 below 0, and at most what 64 bits hold
abbrev pub rounded_up : ℤ → ℕ
rounded_up (pos bound) = min ((bound + 1023) / PRICED_SCALE) (2 ^ 64 - 1)
rounded_up (negsuc bound) = 0

abbrev pub priced_floor : ProblemView → List (ℕ × ℕ) → List Price → ℕ
priced_floor p ranges prices = rounded_up (bound_of p ranges prices PRICED_SCALE)

-- the floor by the vector of a number: vector 0, without prices, at scale 1, and the listed ones after it at scale 1024
abbrev pub floor_by : ProblemView → List (ℕ × ℕ) → List (List Price) → ℕ → ℕ
floor_by p ranges vectors zero = zero_floor p ranges
floor_by p ranges vectors (suc k) = priced_floor p ranges (vector_at vectors (suc k))

abbrev pub scale_at : ℕ → ℕ
scale_at zero = 1
scale_at (suc k) = PRICED_SCALE

-- the greatest floor by vector 0 and the first n listed ones, and the lowest vector that gives it
pub record IsFloorBy (p : ProblemView) (ranges : List (ℕ × ℕ)) (vectors : List (List Price))
    (n floor vector : ℕ) : Type 0 where
  pub there : vector ≤ n
  pub value : floor ≡ floor_by p ranges vectors vector
  pub greatest : (k : ℕ) → k ≤ n → floor_by p ranges vectors k ≤ floor
  pub first : (k : ℕ) → k < vector → floor_by p ranges vectors k < floor

-- the stated floor of ranges: by all vectors
abbrev pub IsStatedFloor : ProblemView → List (ℕ × ℕ) → List (List Price) → ℕ → ℕ → Type 0
IsStatedFloor p ranges vectors floor vector =
    IsFloorBy p ranges vectors (length vectors) floor vector
