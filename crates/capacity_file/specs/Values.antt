-- The values that a capacity file may state.
use Rattle.std.specs.Prelude.{◌≢◌, ℕ, ◌<◌, ◌≤◌, ◌==◌, ◌||◌, Bool, List, codes, Option, Some, None}
use Rattle.std.specs.Fmt.{decimal}
use Rattle.season_days.specs.declared.declaration.Rule.{Rule}
use Rattle.season_days.specs.declared.declaration.Night.{Night}
use Rattle.season_days.specs.declared.declaration.TheConstants.{MINUTES_OF_DAY, HIGHEST_WINDOW_LIMIT, HIGHEST_NIGHT_LIMIT, HIGHEST_REFUSAL_PRICE}

-- the minutes between two times that may be offered
abbrev pub is_step : ℕ → Bool
is_step n = (n == 5) || ((n == 10) || ((n == 15) || ((n == 20) || ((n == 30) || (n == 60)))))

-- the price of a refused movement on one date
abbrev pub IsRefusalPrice : ℕ → Type 0
IsRefusalPrice n = (1 ≤ n) × (n ≤ HIGHEST_REFUSAL_PRICE)

-- a night begins and ends at two different times of the day
pub record IsNight (night : Night) : Type 0 where
  pub from : night.from < MINUTES_OF_DAY
  pub to : night.to < MINUTES_OF_DAY
  pub differ : night.from ≢ night.to
  pub limit : night.limit ≤ HIGHEST_NIGHT_LIMIT

-- windows of at least a minute and at most a day, from one time of the day to a later or the same,
-- on some weekday
pub record IsCapacityLine (rule : Rule) : Type 0 where
  pub some_minutes : 1 ≤ rule.length
  pub at_most_a_day : rule.length ≤ MINUTES_OF_DAY
  pub ordered : rule.from ≤ rule.to
  pub in_day : rule.to < MINUTES_OF_DAY
  pub some_weekday : 1 ≤ rule.days
  pub week : rule.days < 128
  pub limit : rule.limit ≤ HIGHEST_WINDOW_LIMIT

-- ---- as text

abbrev pub price_text : Option ℕ → List ℕ
price_text None = codes "NONE"
price_text (Some n) = decimal n
