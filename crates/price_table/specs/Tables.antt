-- What a price table holds, and when it is the table of its vector for a problem.
use Rattle.std.specs.Prelude.{◌≡◌, ℕ, ◌+◌, ◌<◌, ◌≤◌, List, [], length, map, Option, Some, None, slice_index, slice_index_or}
use Rattle.choice_problem.specs.declared.problems.TheConstants.{MOST_RESOURCES}
use Rattle.choice_problem.specs.declared.vectors.Price.{Price}
use Rattle.choice_problem.specs.declared.problems.Alt.{Alt}
use Rattle.choice_problem.specs.Problems.{ProblemView, unit_count, alt_count, part_count, resource_count, chooser_at, alt_uses, limit_of}
use Rattle.choice_problem.specs.Bounds.{IsVector, priced}

-- a vector, what the parts of each unit cost at its prices, and what the limits cost
pub record TableView : Type 0 where
  pub prices : List Price
  pub units : List (List ℕ)
  pub limits : ℕ

-- the vectors of tables
abbrev pub vectors_of : List TableView → List (List Price)
vectors_of tables = map (λ (t : TableView). t.prices) tables

abbrev pub alt_in : List Alt → ℕ → Alt
alt_in alts a = slice_index_or alts a (record { cost = 0; one = None; two = None })

-- what the part that an alternative may name costs
abbrev pub named_price : List ℕ → Option ℕ → ℕ
named_price parts None = 0
named_price parts (Some k) = slice_index parts k

-- what alternative a uses costs
abbrev pub uses_price : List Alt → List ℕ → ℕ → ℕ
uses_price alts parts a =
    named_price parts (alt_in alts a).one + named_price parts (alt_in alts a).two

-- a number for each part of the unit, such that the uses of each alternative cost what they cost at the prices
pub record PricesUnit (p : ProblemView) (prices : List Price) (u : ℕ)
    (parts : List ℕ) : Type 0 where
  pub count : length parts ≡ part_count p u
  pub uses : (a : ℕ) → a < alt_count p u → uses_price (chooser_at p u).alts parts a
      ≡ priced prices (λ r. alt_uses p u a r)

-- the same for each unit
pub record ArePriced (p : ProblemView) (prices : List Price) (units : List (List ℕ)) : Type 0 where
  pub count : length units ≡ unit_count p
  pub each : (u : ℕ) → u < unit_count p → PricesUnit p prices u (slice_index_or units u [])

-- the table's vector is one for the problem, and all uses and the limits are priced at it
pub record IsTableFor (p : ProblemView) (t : TableView) : Type 0 where
  pub vector : IsVector p t.prices
  pub count : length t.units ≡ unit_count p
  pub each : (u : ℕ) → u < unit_count p → PricesUnit p t.prices u (slice_index_or t.units u [])
  pub at_limits : t.limits ≡ priced t.prices (λ r. limit_of p r)
  pub few_resources : resource_count p ≤ MOST_RESOURCES
