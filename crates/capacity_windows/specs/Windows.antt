-- The windows of a declaration and its night quota: how they are numbered, how much they may hold,
-- what they hold, and the load of a list of movements on them.
use Rattle.std.specs.Prelude.{◌≡◌, ◌↔◌, IfSome, slice_get, ℕ, ◌+◌, ◌*◌, ◌-◌, ◌/◌, ◌%◌, ◌<◌, ◌≤◌, ◌==◌, Bool, true, false, ◌&&◌, ◌||◌, nat_le, nat_lt, if◌then◌else◌, List, [], ◌∷◌, take, map, sum_by, count_by, filter, Option, Some, None}
use Rattle.season_days.specs.Seasons.{date_count, is_on, dates_of}
use Rattle.season_days.specs.declared.day.Period.{Period}
use Rattle.season_days.specs.declared.declaration.Kind.{Kind}
use Rattle.season_days.specs.declared.declaration.Kind.TheVariants.{Arr, Dep, Tot}
use Rattle.season_days.specs.declared.declaration.Rule.{Rule}
use Rattle.season_days.specs.declared.declaration.Night.{Night}
use Rattle.season_days.specs.declared.declaration.TheConstants.{MINUTES_OF_DAY}
use Rattle.capacity_windows.specs.Counts.{numbers_below}
use Rattle.capacity_windows.specs.declared.movement.Movement.{Movement}
use Rattle.capacity_windows.specs.declared.resource.Resource.{Resource}
use Rattle.capacity_windows.specs.declared.resource.Resource.TheVariants.{Window, Quota, Nothing}
pub use Rattle.season_days.specs.Capacity.{Capacity, capacity_of, start_of, starts_of, windows_of, declared_resources, IsRule, IsCapacity}

-- ---- numbers: the windows line by line, day by day and start by start, then the night quota

-- the number of a line's first window
abbrev pub first_of : Capacity → ℕ → ℕ
first_of c rule = sum_by (windows_of c) (take rule c.rules)

-- what a number stands for
abbrev pub quota_from : Option Night → ℕ → Resource
quota_from None r = Nothing
quota_from (Some night) r = if r == 0 then Quota night else Nothing

abbrev pub resource_from : Capacity → List Rule → ℕ → Resource
resource_from c [] r = quota_from c.night r
resource_from c (rule ∷ rules) r =
    if nat_lt r (windows_of c rule)
    then Window rule (r / starts_of c.step rule) (r % starts_of c.step rule)
    else resource_from c rules (r - windows_of c rule)

abbrev pub resource_at : Capacity → ℕ → Resource
resource_at c r = resource_from c c.rules r

-- ---- limits: on a day whose weekday is not in the line's set a window has limit 0

abbrev pub day_limit : Capacity → Rule → ℕ → ℕ
day_limit c rule day = if is_on c.season rule.days day then rule.limit else 0

abbrev pub resource_limit : Capacity → Resource → ℕ
resource_limit c (Window rule day start) = day_limit c rule day
resource_limit c (Quota night) = night.limit
resource_limit c Nothing = 0

abbrev pub window_limit : Capacity → ℕ → ℕ
window_limit c r = resource_limit c (resource_at c r)

-- ---- movements, and what holds them

-- a movement after the season's last date is listed nowhere
abbrev pub is_listed : Capacity → Movement → Bool
is_listed c m = nat_lt m.day (date_count c.season)

-- whether windows of one kind hold movements of another
abbrev pub is_of_kind : Kind → Kind → Bool
is_of_kind Tot kind = true
is_of_kind Arr Arr = true
is_of_kind Arr Dep = false
is_of_kind Arr Tot = false
is_of_kind Dep Arr = false
is_of_kind Dep Dep = true
is_of_kind Dep Tot = false

-- minutes from the beginning of the season, so that a window may reach into the next day
abbrev pub absolute_minute : ℕ → ℕ → ℕ
absolute_minute day minute = MINUTES_OF_DAY * day + minute

-- from the first minute on, for so many minutes
abbrev pub is_within : ℕ → ℕ → ℕ → Bool
is_within begin length minute = nat_le begin minute && nat_lt minute (begin + length)

-- from the night's first minute on and before its end; a night may reach over midnight
abbrev pub is_at_night : Night → ℕ → Bool
is_at_night night minute =
    if nat_lt night.to night.from then nat_le night.from minute || nat_lt minute night.to
    else nat_le night.from minute && nat_lt minute night.to

-- whether a resource holds a movement
abbrev pub holds : Capacity → Resource → Movement → Bool
holds c (Window rule day start) m =
    is_listed c m
    && (is_on c.season rule.days day
    && (is_of_kind rule.kind m.kind
    && is_within (absolute_minute day (start_of c.step rule start)) rule.length
    (absolute_minute m.day m.minute)))
holds c (Quota night) m = is_listed c m && is_at_night night m.minute
holds c Nothing m = false

-- the resources below a number that hold a movement, in rising order
abbrev pub uses_below : Capacity → Movement → ℕ → List ℕ
uses_below c m n = filter (λ r. holds c (resource_at c r) m) (numbers_below n)

-- ---- loads

-- how many movements of a list a resource holds
abbrev pub resource_load : Capacity → Resource → List Movement → ℕ
resource_load c resource list = count_by (holds c resource) list

abbrev pub window_load : Capacity → List Movement → ℕ → ℕ
window_load c list r = resource_load c (resource_at c r) list

-- no resource holds more than it may
abbrev pub WindowsFit : Capacity → List Movement → Type 0
WindowsFit c list = (r : ℕ) → r < declared_resources c → window_load c list r ≤ window_limit c r

-- the movements of a stop of one kind and minute: one for each date of a period, some days later
abbrev pub movement_on : Kind → ℕ → ℕ → ℕ → Movement
movement_on kind minute later date = record { kind = kind; day = date + later; minute = minute }

abbrev pub stop_movements : Capacity → Kind → ℕ → ℕ → Period → List Movement
stop_movements c kind minute later period =
    map (movement_on kind minute later) (dates_of c.season period)

-- the windows of a capacity line that begin some days before a movement's and hold the movement
-- have the numbers of this run
abbrev pub IsHeldRun : Capacity → ℕ → ℕ → Movement → ℕ → ℕ → Type 0
IsHeldRun c rule ago m first end =
    (day start : ℕ) → day + ago ≡ m.day →
    IfSome (slice_get c.rules rule) (λ (of : Rule). start < starts_of c.step of →
    ((first ≤ first_of c rule + day * starts_of c.step of + start)
    × (first_of c rule + day * starts_of c.step of + start < end))
    ↔ (holds c (Window of day start) m ≡ true))

-- the number is that of a window of a capacity line that begins so many days before a movement's
pub record IsWindowAgo (c : Capacity) (m : Movement) (r rule ago day start : ℕ)
    (of : Rule) : Type 0 where
  pub line : slice_get c.rules rule ≡ Some of
  pub near : ago < 2
  pub begins : day + ago ≡ m.day
  pub column : start < starts_of c.step of
  pub number : r ≡ first_of c rule + day * starts_of c.step of + start
  pub window : resource_at c r ≡ Window of day start

-- ---- how many strips the windows of a stop take

-- every weekday is in the two sets
abbrev pub is_daily : ℕ → ℕ → Bool
is_daily days dates = days == 127 && dates == 127

-- the windows of a line that begin on the movement's day, or on the day before: one strip where all
-- is daily, else one for each weekday
abbrev pub band_strips : ℕ → ℕ → ℕ
band_strips days dates = if is_daily days dates then 1 else 7

-- both, where the line's windows hold the kind
abbrev pub rule_strips : Kind → Period → Rule → ℕ
rule_strips kind period rule =
    if is_of_kind rule.kind kind then 2 * band_strips rule.days period.days else 0

-- all lines together, and one strip for the night quota
abbrev pub most_strips : Capacity → Kind → Period → ℕ
most_strips c kind period = sum_by (rule_strips kind period) c.rules + 1
