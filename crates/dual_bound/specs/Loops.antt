-- Forms of loops: contracts of private functions alone cite them.
use Rattle.std.specs.Prelude.{◌≡◌, ℕ, ◌+◌, ◌-◌, ◌*◌, ◌<◌, ◌≤◌, ◌^◌, min, List, length, slice_index, ℤ, ◌≤ℤ◌, ◌<ℤ◌}
use Rattle.choice_problem.specs.declared.closing.TheConstants.{PRICED_SCALE}
use Rattle.choice_problem.specs.declared.problems.TheConstants.{MOST_UNITS, MOST_USES}
use Rattle.choice_problem.specs.declared.vectors.Price.{Price}
use Rattle.finite_sums.specs.Sums.{sum_below}
use Rattle.choice_problem.specs.Problems.{ProblemView, unit_count, resource_count, alt_uses, limit_of}
use Rattle.choice_problem.specs.Bounds.{bound_of}
use Rattle.choice_problem.specs.Roots.{vector_of, price_after, step_length, step_vector}
use Rattle.price_table.specs.Strips.{ArePrices, least_alt}

-- the vector of the prices in a list of one for each resource
abbrev pub vector_in : ProblemView → List ℕ → List Price
vector_in p numbers = vector_of (resource_count p) (λ r. slice_index numbers r)

-- how often these alternatives of the first n units use the resource
abbrev pub least_alt_load : ProblemView → List (ℕ × ℕ) → List Price → ℕ → ℕ → ℕ → ℕ
least_alt_load p ranges prices scale n r = sum_below n
    (λ u. alt_uses p u (least_alt p ranges prices scale u) r)

-- prices, the loads of the units' least alternatives there, and the bound
pub record IsPoint (p : ProblemView) (ranges : List (ℕ × ℕ)) (scale : ℕ) (numbers loads : List ℕ)
    (bound : ℤ) : Type 0 where
  pub prices : ArePrices p numbers
  pub load_count : length loads ≡ resource_count p
  pub loads_are : (r : ℕ) → r < resource_count p → slice_index loads r
      ≡ least_alt_load p ranges (vector_in p numbers) scale (unit_count p) r
  pub few : (r : ℕ) → r < resource_count p → slice_index loads r ≤ MOST_UNITS * MOST_USES
  pub bound_is : bound ≡ bound_of p ranges (vector_in p numbers) scale

-- each price moved by a step of this length, and kept from 0 to 2 ^ 40 - 1
pub record AreMoved (p : ProblemView) (numbers loads : List ℕ) (step : ℕ)
    (moved : List ℕ) : Type 0 where
  pub count : length moved ≡ resource_count p
  pub each : (r : ℕ) → r < resource_count p → slice_index moved r ≡ min
      ((slice_index numbers r + step * slice_index loads r) - step * limit_of p r)
      (2 ^ 40 - 1)

-- prices that are those after some steps, with how great they can be
pub record IsAfter (p : ProblemView) (ranges : List (ℕ × ℕ)) (step : ℕ)
    (numbers : List ℕ) : Type 0 where
  pub prices_are : (r : ℕ) → r < resource_count p → slice_index numbers r
      ≡ price_after p ranges step r
  pub top : (r : ℕ) → r < resource_count p → slice_index numbers r
      ≤ sum_below step step_length * (MOST_UNITS * MOST_USES)

-- of the prices after 0 to n steps, the first with the greatest bound
pub record IsGreatestUpTo (p : ProblemView) (ranges : List (ℕ × ℕ)) (n : ℕ) (numbers : List ℕ)
    (bound : ℤ) : Type 0 where
  pub step : ℕ
  pub counted : step ≤ n
  pub prices : ArePrices p numbers
  pub prices_are : (r : ℕ) → r < resource_count p → slice_index numbers r
      ≡ price_after p ranges step r
  pub bound_is : bound ≡ bound_of p ranges (step_vector p ranges step) PRICED_SCALE
  pub greatest : (k : ℕ) → k ≤ n → bound_of p ranges (step_vector p ranges k) PRICED_SCALE ≤ℤ bound
  pub first : (k : ℕ) → k < step → bound_of p ranges (step_vector p ranges k) PRICED_SCALE <ℤ bound
