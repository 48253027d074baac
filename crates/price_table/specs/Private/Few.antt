-- Prices of strips and parts at a vector, each price looked up.
use Rattle.std.specs.Prelude.{ℕ, ◌-◌, ◌<◌, ◌≤◌, ◌^◌, min, List, length, sum_by, All, AllPairs, pos, ◌<ℤ◌, ◌≤ℤ◌}
use Rattle.choice_problem.specs.declared.strips.Strip.{Strip}
use Rattle.choice_problem.specs.declared.vectors.Price.{Price}
use Rattle.choice_problem.specs.Strips.{strip_uses}
use Rattle.choice_problem.specs.Bounds.{priced}
use Rattle.price_table.specs.declared.few.TheConstants.{MOST_FEW}

-- at most 4,096 prices, each from 1 to 2 ^ 40 - 1, by rising resource
pub record AreFewPrices (prices : List Price) : Type 0 where
  pub few : length prices ≤ MOST_FEW
  pub rising : AllPairs (λ e f. e.resource < f.resource) prices
  pub positive : All (λ e. pos 1 ≤ℤ e.price) prices
  pub small : All (λ e. e.price <ℤ pos (2 ^ 40)) prices

-- what a strip costs at the prices, each use counted
abbrev pub strip_priced : List Price → Strip → ℕ
strip_priced prices s = priced prices (λ r. strip_uses s r)

-- what the strips of a part cost together, where it fits 128 bits
abbrev pub capped_priced : List Price → List Strip → ℕ
capped_priced prices strips = min (sum_by (λ s. strip_priced prices s) strips) (2 ^ 128 - 1)
