-- Forms of loops: contracts of private functions alone cite them.
use Rattle.std.specs.Prelude.{ℕ, ◌+◌, ◌*◌, ◌<◌, ◌^◌, List, length}
use Rattle.std.specs.Option.{ForSome}
use Rattle.choice_problem.specs.declared.problems.Alt.{Alt}
use Rattle.price_table.specs.Tables.{alt_in, uses_price}

-- an alternative's scaled cost, with its uses at the prices of its parts
abbrev pub unit_cost : List Alt → List ℕ → ℕ → ℕ → ℕ
unit_cost alts parts scale a = scale * (alt_in alts a).cost + uses_price alts parts a

-- alternatives that keep the limit on costs and name parts whose prices are there, with sums that stay small
pub record ArePriceable (alts : List Alt) (parts : List ℕ) : Type 0 where
  pub cost : (a : ℕ) → a < length alts → (alt_in alts a).cost < 2 ^ 24
  pub one : (a : ℕ) → a < length alts → ForSome (alt_in alts a).one (λ k. k < length parts)
  pub two : (a : ℕ) → a < length alts → ForSome (alt_in alts a).two (λ k. k < length parts)
  pub uses : (a : ℕ) → a < length alts → uses_price alts parts a < 2 ^ 100
