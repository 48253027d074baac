-- What is kept of ranges that change unit by unit, so that their floors are read from it.
use Rattle.std.specs.Prelude.{◌≡◌, ℕ, ◌<◌, ◌≤◌, ◌^◌, List, [], length, slice_index, All}
use Rattle.choice_problem.specs.declared.vectors.TheConstants.{MOST_VECTORS}
use Rattle.choice_problem.specs.declared.vectors.Price.{Price}
use Rattle.finite_sums.specs.Sums.{least_within}
use Rattle.choice_problem.specs.Problems.{ProblemView, unit_count}
use Rattle.choice_problem.specs.Bounds.{AreRanges, low_of, high_of, priced_cost}
use Rattle.price_table.specs.Tables.{TableView, IsTableFor, vectors_of}
use Rattle.price_table.specs.Totals.{TotalsView, AreKeptFor}

-- a problem, vectors of prices, and ranges
pub record FloorsView : Type 0 where
  pub problem : ProblemView
  pub vectors : List (List Price)
  pub ranges : List (ℕ × ℕ)

-- the least cost of each unit in its range
pub record AreLeastCosts (p : ProblemView) (ranges : List (ℕ × ℕ)) (costs : List ℕ) : Type 0 where
  pub count : length costs ≡ unit_count p
  pub each : (u : ℕ) → u < unit_count p → slice_index costs u
      ≡ least_within (low_of ranges u) (high_of ranges u) (λ a. priced_cost p [] 1 u a)
  pub small : (u : ℕ) → u < unit_count p → slice_index costs u < 2 ^ 24

-- these costs, and totals for each of the tables' vectors, all at these ranges
pub record AreFloorsKept (p : ProblemView) (tables : List TableView) (ranges : List (ℕ × ℕ))
    (costs : List ℕ) (totals : List TotalsView) : Type 0 where
  pub few : length tables ≤ MOST_VECTORS
  pub each : All (IsTableFor p) tables
  pub valid : AreRanges p ranges
  pub costs_are : AreLeastCosts p ranges costs
  pub kept : AreKeptFor p (vectors_of tables) ranges totals
