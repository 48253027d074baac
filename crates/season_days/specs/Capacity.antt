-- What of a declaration its windows depend on: how many windows there are, and the limits that a
-- declaration keeps.
use Rattle.std.specs.Prelude.{ℕ, ◌+◌, ◌*◌, ◌-◌, ◌/◌, ◌<◌, ◌≤◌, if◌then◌else◌, is_some, List, length, sum_by, All, Option}
use Rattle.std.specs.Option.{ForSome}
use Rattle.season_days.specs.Term.{Term}
use Rattle.season_days.specs.Seasons.{date_count}
use Rattle.season_days.specs.declared.declaration.Declaration.{Declaration}
use Rattle.season_days.specs.declared.declaration.Rule.{Rule}
use Rattle.season_days.specs.declared.declaration.Night.{Night}
use Rattle.season_days.specs.declared.declaration.TheConstants.{MINUTES_OF_DAY, MOST_RULES, MOST_WINDOWS, HIGHEST_WINDOW_LIMIT, HIGHEST_NIGHT_LIMIT, HIGHEST_REFUSAL_PRICE, HIGHEST_SHARE}

-- what of a declaration its windows depend on
pub record Capacity : Type 0 where
  pub season : Term
  pub step : ℕ
  pub night : Option Night
  pub rules : List Rule

abbrev pub capacity_of : Declaration → Capacity
capacity_of declaration = record {
  season = declaration.season;
  step = declaration.step;
  night = declaration.night;
  rules = declaration.rules;
}

-- a window begins at the rule's first minute, and then each step up to its last
abbrev pub start_of : ℕ → Rule → ℕ → ℕ
start_of step rule start = rule.from + start * step

-- how many windows a rule has on a day, and in the season
abbrev pub starts_of : ℕ → Rule → ℕ
starts_of step rule = (rule.to - rule.from) / step + 1

abbrev pub windows_of : Capacity → Rule → ℕ
windows_of c rule = date_count c.season * starts_of c.step rule

-- how many resources there are: all windows, and the night quota after them
abbrev pub declared_resources : Capacity → ℕ
declared_resources c = sum_by (windows_of c) c.rules + (if is_some c.night then 1 else 0)

-- the limits of a capacity line, and of all together
pub record IsRule (rule : Rule) : Type 0 where
  pub ordered : rule.from ≤ rule.to
  pub in_day : rule.to < MINUTES_OF_DAY
  pub short : rule.length ≤ MINUTES_OF_DAY
  pub limit : rule.limit ≤ HIGHEST_WINDOW_LIMIT

pub record IsCapacity (c : Capacity) : Type 0 where
  pub step : 0 < c.step
  pub lines : length c.rules ≤ MOST_RULES
  pub rules : All IsRule c.rules
  pub night : ForSome c.night (λ night. night.limit ≤ HIGHEST_NIGHT_LIMIT)
  pub few : declared_resources c ≤ MOST_WINDOWS

-- what a declaration keeps: the limits of its capacity, and those of the price of a refusal and of
-- the share of new entrants
pub record IsDeclaration (d : Declaration) : Type 0 where
  pub capacity : IsCapacity (capacity_of d)
  pub price : ForSome d.refuse (λ price. price ≤ HIGHEST_REFUSAL_PRICE)
  pub share : d.share ≤ HIGHEST_SHARE
