-- Least priced costs of units and their sum, kept while ranges change.
use Rattle.std.specs.Prelude.{◌≡◌, ℕ, ◌<◌, ◌≤◌, ◌^◌, List, [], length, slice_index, slice_index_or}
use Rattle.choice_problem.specs.declared.closing.TheConstants.{PRICED_SCALE, SCALE_BOUND}
use Rattle.choice_problem.specs.declared.problems.TheConstants.{MOST_UNITS}
use Rattle.choice_problem.specs.declared.vectors.Price.{Price}
use Rattle.finite_sums.specs.Sums.{sum_below}
use Rattle.choice_problem.specs.Problems.{ProblemView, unit_count, limit_of}
use Rattle.choice_problem.specs.Bounds.{AreRanges, priced}
use Rattle.price_table.specs.Strips.{unit_least}

-- ranges, a scale, the least priced cost of each unit, and what the limits cost
pub record TotalsView : Type 0 where
  pub ranges : List (ℕ × ℕ)
  pub scale : ℕ
  pub least : List ℕ
  pub limits : ℕ

-- these are the totals of a problem at some prices: the costs are each unit's least one in its range
pub record AreTotalsFor (p : ProblemView) (prices : List Price) (t : TotalsView) : Type 0 where
  pub ranges : AreRanges p t.ranges
  pub count : length t.least ≡ unit_count p
  pub each : (u : ℕ) → u < unit_count p → slice_index t.least u
      ≡ unit_least p t.ranges prices t.scale u
  pub at_limits : t.limits ≡ priced prices (λ r. limit_of p r)

abbrev pub totals_at : List TotalsView → ℕ → TotalsView
totals_at totals k =
    slice_index_or totals k (record { ranges = []; scale = 0; least = []; limits = 0 })

-- totals for each of these vectors, all at these ranges and at scale 1024
pub record AreKeptFor (p : ProblemView) (vectors : List (List Price)) (ranges : List (ℕ × ℕ))
    (totals : List TotalsView) : Type 0 where
  pub count : length totals ≡ length vectors
  pub each : (k : ℕ) → k < length vectors →
      AreTotalsFor p (slice_index_or vectors k []) (totals_at totals k)
  pub at_ranges : (k : ℕ) → k < length vectors → (totals_at totals k).ranges ≡ ranges
  pub at_scale : (k : ℕ) → k < length vectors → (totals_at totals k).scale ≡ PRICED_SCALE

abbrev pub sum_of : List ℕ → ℕ
sum_of numbers = sum_below (length numbers) (λ u. slice_index numbers u)

-- at most 4,096 numbers that stay small, and their sum
pub record AreSummed (numbers : List ℕ) (total : ℕ) : Type 0 where
  pub few : length numbers ≤ MOST_UNITS
  pub small : (u : ℕ) → u < length numbers → slice_index numbers u < 2 ^ 101
  pub total_is : total ≡ sum_of numbers

-- what holds of all kept totals: a scale below the bound, costs with their sum, and what limits can cost
abbrev pub AreTotals : ℕ → List ℕ → ℕ → ℕ → Type 0
AreTotals scale least total limits =
    (scale < SCALE_BOUND) × (AreSummed least total × (limits < 2 ^ 124))
