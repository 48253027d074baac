-- Facts that `Windows` keeps and that its private calls hand on: contracts of private functions
-- alone cite them.
use Rattle.std.specs.Prelude.{◌≡◌, ℕ, ◌<◌, ◌≤◌, List, length, Some, slice_get}
use Rattle.season_days.specs.Seasons.{date_count}
use Rattle.season_days.specs.declared.season.TheConstants.{MOST_DATES}
use Rattle.season_days.specs.declared.declaration.TheConstants.{MINUTES_OF_DAY, HIGHEST_WINDOW_LIMIT, HIGHEST_NIGHT_LIMIT}
use Rattle.capacity_windows.specs.declared.resource.Resource.{Resource}
use Rattle.capacity_windows.specs.declared.resource.Resource.TheVariants.{Window, Quota, Nothing}
use Rattle.capacity_windows.specs.Windows.{Capacity, start_of, declared_resources, window_limit, IsCapacity}

-- what a `Windows` keeps beside the declaration: the numbers of dates and of resources
pub record IsKept (c : Capacity) (days resources : ℕ) : Type 0 where
  pub dates : days ≡ date_count c.season
  pub few : days ≤ MOST_DATES
  pub all : resources ≡ declared_resources c
  pub limits : IsCapacity c

-- a window lies on a date of the season and begins on it, and limits are small
abbrev pub IsResource : Capacity → Resource → Type 0
IsResource c (Window rule day start) =
    (day < date_count c.season) × (start_of c.step rule start < MINUTES_OF_DAY)
    × (rule.limit ≤ HIGHEST_WINDOW_LIMIT)
IsResource c (Quota night) = night.limit ≤ HIGHEST_NIGHT_LIMIT
IsResource c Nothing = Unit {0}

-- the limits of the first resources, by their numbers
abbrev pub AreLimits : Capacity → List ℕ → Type 0
AreLimits c limits = (r : ℕ) → r < length limits → slice_get limits r ≡ Some (window_limit c r)
