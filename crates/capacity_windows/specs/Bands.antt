-- What the dates of a period use of a band of windows: contracts of private functions alone cite
-- these words.
use Rattle.std.specs.Prelude.{◌≡◌, ℕ, ◌+◌, ◌*◌, ◌-◌, ◌/◌, ◌%◌, ◌<◌, ◌≤◌, Bool, ◌&&◌, nat_le, nat_lt, min, max, if◌then◌else◌, List, Option, Some, None}
use Rattle.choice_problem.specs.declared.strips.Strip.{Strip}
use Rattle.choice_problem.specs.Strips.{part_uses, strip_uses}
use Rattle.season_days.specs.Term.{Term}
use Rattle.season_days.specs.Seasons.{date_count, is_on}
use Rattle.season_days.specs.declared.day.Period.{Period}
use Rattle.capacity_windows.specs.declared.band.Band.{Band}
use Rattle.season_days.specs.declared.declaration.Rule.{Rule}
use Rattle.season_days.specs.declared.declaration.TheConstants.{MINUTES_OF_DAY, MOST_WINDOWS}
use Rattle.capacity_windows.specs.declared.movement.Movement.{Movement}
use Rattle.capacity_windows.specs.declared.stop_dates.StopDates.{StopDates}
use Rattle.capacity_windows.specs.declared.resource.Resource.TheVariants.{Window}
use Rattle.finite_sums.specs.Sums.{count_below}
use Rattle.capacity_windows.specs.Windows.{Capacity, starts_of, windows_of, resource_from, resource_load, stop_movements}

-- a strip with at least one resource a run
abbrev pub IsWide : Strip → Type 0
IsWide strip = 0 < strip.width

abbrev pub IsOptionWide : Option Strip → Type 0
IsOptionWide None = Unit {0}
IsOptionWide (Some strip) = IsWide strip

-- the part has these uses more
abbrev pub Adds : List Strip → List Strip → (ℕ → ℕ) → Type 0
Adds old new uses = (r : ℕ) → part_uses new r ≡ part_uses old r + uses r

abbrev pub is_date : Term → Period → ℕ → Bool
is_date season period x =
    nat_le period.first.0 x && (nat_le x period.last.0 && is_on season period.days x)

-- on how many dates of a period a movement some days later is listed
abbrev pub listed_dates : Term → Period → ℕ → ℕ
listed_dates season period later =
    count_below (date_count season)
    (λ x. is_date season period x && nat_lt (x + later) (date_count season))

-- whether a resource is in the band on a day
abbrev pub is_in_band : Band → ℕ → ℕ → Bool
is_in_band band day r =
    nat_le (band.first + day * band.starts + band.low) r
    && nat_lt r (band.first + day * band.starts + band.high)

-- whether the movement some days after a date uses a resource of the band
abbrev pub uses_band : Term → Period → ℕ → Band → ℕ → ℕ → Bool
uses_band season period later band r x =
    is_date season period x
    && (nat_lt (x + later) (date_count season)
    && (nat_le band.ago (x + later)
    && (is_on season band.days (x + later - band.ago)
    && is_in_band band (x + later - band.ago) r)))

-- how many of the dates do
abbrev pub band_uses : Term → Period → ℕ → Band → ℕ → ℕ
band_uses season period later band r =
    count_below (date_count season) (uses_band season period later band r)

-- how many starts there are up to a minute, where the first one is known
abbrev pub starts_until : ℕ → ℕ → ℕ → ℕ
starts_until first step minute = if nat_lt minute first then 0 else (minute - first) / step + 1

-- the band of a rule whose windows hold a minute some days on
abbrev pub band_of : ℕ → Rule → ℕ → ℕ → ℕ → Band
band_of step rule first minute ago = record {
  days = rule.days;
  first = first;
  starts = starts_of step rule;
  low = min (starts_of step rule)
      (starts_until (rule.from + rule.length) step (minute + MINUTES_OF_DAY * ago));
  high = min (starts_of step rule) (starts_until rule.from step (minute + MINUTES_OF_DAY * ago));
  ago = ago;
}

-- the load on the windows of a rule, the first of which has this number
abbrev pub rule_load : Capacity → Rule → ℕ → List Movement → ℕ → ℕ
rule_load c rule first list r =
    if nat_le first r && nat_lt (r - first) (windows_of c rule)
    then resource_load c
    (Window rule ((r - first) / starts_of c.step rule)
    ((r - first) % starts_of c.step rule)) list else 0

-- the load on what comes from a number on
abbrev pub rest_load : Capacity → List Rule → ℕ → List Movement → ℕ → ℕ
rest_load c rules first list r =
    if nat_le first r then resource_load c (resource_from c rules (r - first)) list else 0

-- the first date on which a movement can be in a band, and the end of those on which it is listed
abbrev pub first_date : Period → ℕ → Band → ℕ
first_date period later band = max period.first.0 (band.ago - later)

abbrev pub end_date : Term → Period → ℕ → ℕ
end_date season period later = min (period.last.0 + 1) (date_count season - later)

-- how many of the dates use it whose day of the week is below one, where 0 is the first date's
abbrev pub weekday_uses : Term → Period → ℕ → Band → ℕ → ℕ → ℕ
weekday_uses season period later band c r =
    count_below (date_count season)
    (λ x. nat_lt (x % 7) c && uses_band season period later band r x)

-- a band lies in the numbers of a rule's windows
pub record IsBand (season : Term) (band : Band) : Type 0 where
  pub room : band.first + date_count season * band.starts ≤ MOST_WINDOWS
  pub ordered : band.low ≤ band.high
  pub few : band.high ≤ band.starts
  pub near : band.ago < 2

-- the minute is one of a day, and the period lies in the season
pub record AreStopDates (season : Term) (stop : StopDates) : Type 0 where
  pub minute : stop.minute < MINUTES_OF_DAY
  pub first : stop.period.first.0 < date_count season
  pub last : stop.period.last.0 < date_count season

-- the movements of a stop
abbrev pub dated_movements : Capacity → StopDates → List Movement
dated_movements c stop = stop_movements c stop.kind stop.minute stop.later stop.period

-- the uses of a strip, if there is one
abbrev pub option_uses : Option Strip → ℕ → ℕ
option_uses None r = 0
option_uses (Some strip) r = strip_uses strip r
