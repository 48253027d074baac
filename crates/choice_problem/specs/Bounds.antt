-- Ranges of alternatives, the Lagrangian bound of ranges at a vector of prices, and what closes a leaf.
use Rattle.std.specs.Prelude.{◌≡◌, ℕ, ◌+◌, ◌-◌, ◌*◌, ◌^◌, ◌<◌, ◌≤◌, List, length, map, slice_index, slice_index_or, sum_by, All, AllPairs, Option, Some, None, ℤ, pos, ◌-ℤ◌, ◌*ℤ◌, ◌<ℤ◌, ◌≤ℤ◌}
use Rattle.choice_problem.specs.declared.vectors.Price.{Price}
use Rattle.finite_sums.specs.Sums.{sum_below, least_within}
use Rattle.choice_problem.specs.Problems.{ProblemView, ChooserView, unit_count, alt_count, resource_count, alt_cost, alt_uses, limit_of, amount}

-- the least and the greatest alternative of a unit, both in range
abbrev pub low_of : List (ℕ × ℕ) → ℕ → ℕ
low_of ranges u = (slice_index_or ranges u (0, 0)).0

abbrev pub high_of : List (ℕ × ℕ) → ℕ → ℕ
high_of ranges u = (slice_index_or ranges u (0, 0)).1

-- an interval of alternatives for each unit
pub record AreRanges (p : ProblemView) (ranges : List (ℕ × ℕ)) : Type 0 where
  pub length : length ranges ≡ unit_count p
  pub ordered : (u : ℕ) → u < unit_count p → low_of ranges u ≤ high_of ranges u
  pub there : (u : ℕ) → u < unit_count p → high_of ranges u < alt_count p u

-- all alternatives of each unit
abbrev pub whole_of : ProblemView → List (ℕ × ℕ)
whole_of p = map (λ (m : ChooserView). (0, length m.alts - 1)) p.units

-- the choice takes each unit's alternative from its range
pub record IsWithin (p : ProblemView) (ranges : List (ℕ × ℕ)) (x : List ℕ) : Type 0 where
  pub from : (u : ℕ) → u < unit_count p → low_of ranges u ≤ slice_index x u
  pub to : (u : ℕ) → u < unit_count p → slice_index x u ≤ high_of ranges u

-- the price at a place of a vector
abbrev pub price_at : List Price → ℕ → Price
price_at prices i = slice_index_or prices i (record { resource = 0; price = pos 0 })

-- uses at the vector's prices, each use counted: a resource that it does not name is free
abbrev pub priced : List Price → (ℕ → ℕ) → ℕ
priced prices uses = sum_by (λ e. amount e.price * uses e.resource) prices

-- an alternative's cost, scaled, with its uses at their prices
abbrev pub priced_cost : ProblemView → List Price → ℕ → ℕ → ℕ → ℕ
priced_cost p prices scale u a = scale * alt_cost p u a + priced prices (λ r. alt_uses p u a r)

-- the sum over units of the least priced cost in range
abbrev pub least_total : ProblemView → List (ℕ × ℕ) → List Price → ℕ → ℕ
least_total p ranges prices scale =
    sum_below (unit_count p)
    (λ u. least_within (low_of ranges u) (high_of ranges u)
    (λ a. priced_cost p prices scale u a))

-- the Lagrangian bound, scaled: the least total less the limits at their prices
abbrev pub bound_of : ProblemView → List (ℕ × ℕ) → List Price → ℕ → ℤ
bound_of p ranges prices scale =
    pos (least_total p ranges prices scale) -ℤ pos (priced prices (λ r. limit_of p r))

-- the bound closes the ranges for a cost, or for none
abbrev pub Closes : ProblemView → List (ℕ × ℕ) → List Price → ℕ → Option ℕ → Type 0
Closes p ranges prices scale (Some cost) =
    (pos scale *ℤ (pos cost -ℤ pos 1)) <ℤ bound_of p ranges prices scale
Closes p ranges prices scale None = (scale ≡ 0) × (pos 0 <ℤ bound_of p ranges prices scale)

-- the sum over units of the least number of uses of the resource in range
abbrev pub least_load : ProblemView → List (ℕ × ℕ) → ℕ → ℕ
least_load p ranges r =
    sum_below (unit_count p)
    (λ u. least_within (low_of ranges u) (high_of ranges u) (λ a. alt_uses p u a r))

-- even the least load passes the limit
abbrev pub IsOver : ProblemView → List (ℕ × ℕ) → ℕ → Type 0
IsOver p ranges r = limit_of p r < least_load p ranges r

-- a price of a resource that is there, from 1 to 2 ^ 40 - 1
pub record IsPrice (p : ProblemView) (e : Price) : Type 0 where
  pub there : e.resource < resource_count p
  pub positive : pos 1 ≤ℤ e.price
  pub small : e.price <ℤ pos (2 ^ 40)

-- the vector's resources rise, and its prices are the problem's
pub record IsVector (p : ProblemView) (prices : List Price) : Type 0 where
  pub rising : AllPairs (λ e f. e.resource < f.resource) prices
  pub each : All (IsPrice p) prices
