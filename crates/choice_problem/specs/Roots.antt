-- The root vector: prices by subgradient steps from zero (Held, Wolfe and Crowder 1974), 64 steps of falling length, of
-- which the vector with the greatest bound is kept.
use Rattle.std.specs.Prelude.{◌≡◌, ℕ, zero, suc, ◌+◌, ◌-◌, ◌*◌, ◌/◌, ◌^◌, ◌<◌, ◌≤◌, ◌==◌, if◌then◌else◌, List, [], ◌∷◌, ◌++◌, pos, ◌<ℤ◌, ◌≤ℤ◌}
use Rattle.choice_problem.specs.declared.closing.TheConstants.{PRICED_SCALE}
use Rattle.choice_problem.specs.declared.vectors.TheConstants.{ROOT_STEPS}
use Rattle.choice_problem.specs.declared.vectors.Price.{Price}
use Rattle.finite_sums.specs.Sums.{sum_below, first_least}
use Rattle.choice_problem.specs.Problems.{ProblemView, unit_count, resource_count, alt_uses, limit_of}
use Rattle.choice_problem.specs.Bounds.{low_of, high_of, whole_of, priced_cost, bound_of}

-- the vector of the prices of the first n resources that are above 0
abbrev pub vector_of : ℕ → (ℕ → ℕ) → List Price
vector_of zero prices = []
vector_of (suc n) prices =
    if prices n == 0 then vector_of n prices
    else vector_of n prices ++ record { resource = n; price = pos (prices n) } ∷ []

-- the unit's first alternative in range that is least by 1024 times its cost and its uses at these prices
abbrev pub priced_alt : ProblemView → List (ℕ × ℕ) → (ℕ → ℕ) → ℕ → ℕ
priced_alt p ranges prices u =
    first_least (low_of ranges u) (high_of ranges u)
    (λ a. priced_cost p (vector_of (resource_count p) prices) PRICED_SCALE u a)

-- how often these alternatives together use the resource
abbrev pub priced_load : ProblemView → List (ℕ × ℕ) → (ℕ → ℕ) → ℕ → ℕ
priced_load p ranges prices r =
    sum_below (unit_count p) (λ u. alt_uses p u (priced_alt p ranges prices u) r)

-- how far a step moves a price for each use above or below the limit; steps count from 0
abbrev pub step_length : ℕ → ℕ
step_length step = 16384 / 2 ^ (step / 8)

-- the resource's price after so many steps: raised where it is used above its limit, lowered where below, never under 0
abbrev pub price_after : ProblemView → List (ℕ × ℕ) → ℕ → ℕ → ℕ
price_after p ranges zero r = 0
price_after p ranges (suc step) r =
    (price_after p ranges step r
    + step_length step * priced_load p ranges (λ q. price_after p ranges step q) r)
    - step_length step * limit_of p r

abbrev pub step_vector : ProblemView → List (ℕ × ℕ) → ℕ → List Price
step_vector p ranges step = vector_of (resource_count p) (λ r. price_after p ranges step r)

-- of the vectors after 0 to 64 steps, the first with the greatest bound on the ranges at scale 1024
pub record IsNodeVector (p : ProblemView) (ranges : List (ℕ × ℕ))
    (prices : List Price) : Type 0 where
  pub step : ℕ
  pub counted : step ≤ ROOT_STEPS
  pub prices_are : prices ≡ step_vector p ranges step
  pub greatest : (k : ℕ) → k ≤ ROOT_STEPS → bound_of p ranges (step_vector p ranges k) PRICED_SCALE
      ≤ℤ bound_of p ranges (step_vector p ranges step) PRICED_SCALE
  pub first : (k : ℕ) → k < step → bound_of p ranges (step_vector p ranges k) PRICED_SCALE
      <ℤ bound_of p ranges (step_vector p ranges step) PRICED_SCALE

-- the same on all alternatives
abbrev pub IsRootVector : ProblemView → List Price → Type 0
IsRootVector p prices = IsNodeVector p (whole_of p) prices
