-- Parts of a problem with the same strips, and what parts cost.
use Rattle.std.specs.Prelude.{◌≡◌, ℕ, ◌<◌, List, [], length, slice_index, slice_index_or}
use Rattle.choice_problem.specs.declared.strips.Strip.{Strip}
use Rattle.choice_problem.specs.Problems.{ProblemView, part_count, chooser_at, part_at}
use Rattle.price_table.specs.Strips.{capped_cost}
use Rattle.dual_bound.specs.declared.same.PartOf.{PartOf}

-- the strips of a part
abbrev pub strips_at : ProblemView → PartOf → List Strip
strips_at p part = part_at (chooser_at p part.unit) part.number

-- one of some parts
abbrev pub same_part_at : List PartOf → ℕ → PartOf
same_part_at parts n = slice_index_or parts n (record { unit = 0; number = 0 })

-- for each part of unit u a part with the same strips
pub record AreSameParts (p : ProblemView) (u : ℕ) (parts : List PartOf) : Type 0 where
  pub count : length parts ≡ part_count p u
  pub each : (n : ℕ) → n < part_count p u → strips_at p (same_part_at parts n) ≡ part_at (chooser_at p u) n

-- the same for each of the first n units
pub record AreSameTo (p : ProblemView) (n : ℕ) (units : List (List PartOf)) : Type 0 where
  pub count : length units ≡ n
  pub each : (u : ℕ) → u < n → AreSameParts p u (slice_index_or units u [])

-- what each part of unit u costs, by sums of prices
pub record AreCosts (p : ProblemView) (sums : List ℕ) (u : ℕ) (costs : List ℕ) : Type 0 where
  pub count : length costs ≡ part_count p u
  pub each : (n : ℕ) → n < part_count p u → slice_index costs n
      ≡ capped_cost sums (part_at (chooser_at p u) n)

-- the same for each of the first n units
pub record AreCostsTo (p : ProblemView) (sums : List ℕ) (n : ℕ)
    (units : List (List ℕ)) : Type 0 where
  pub count : length units ≡ n
  pub each : (u : ℕ) → u < n → AreCosts p sums u (slice_index_or units u [])
