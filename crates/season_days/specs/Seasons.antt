-- Seasons, and the days and weekdays of a season.
use Rattle.std.specs.Prelude.{◌≡◌, ◌⊎◌, ℕ, zero, suc, ◌^◌, ◌==◌, ◌+◌, ◌-◌, ◌/◌, ◌%◌, ◌<◌, Bool, nat_le, if◌then◌else◌, List, [], ◌∷◌, map, filter, ℤ, pos, unsigned_abs, ◌+ℤ◌, ◌-ℤ◌, ◌≤ℤ◌, ◌<ℤ◌}
use Rattle.jiff_core.specs.Calendar.{days_from_civil, weekday_number, IsDate}
use Rattle.season_days.specs.Dates.{CivilDate, next_date, last_sunday, last_sunday_number}
use Rattle.season_days.specs.Term.{Term}
use Rattle.season_days.specs.declared.day.Period.{Period}
use Rattle.season_days.specs.declared.day.DayFault.{DayFault}
use Rattle.season_days.specs.declared.day.DayFault.TheVariants.{NoSuchDate, OutsideSeason, Reversed, NoDates, Memory}
use Rattle.season_days.specs.declared.season.Half.{Half}
use Rattle.season_days.specs.declared.season.Half.TheVariants.{Summer, Winter}

-- ---- names of seasons

-- the letter, and two digits of the year
abbrev pub half_letter : Half → ℕ
half_letter Summer = 83
half_letter Winter = 87

abbrev pub season_text : Term → List ℕ
season_text season = half_letter season.half ∷ (48 + season.year / 10) ∷ (48 + season.year % 10)
    ∷ []

-- the season of the same half one year later
abbrev pub same_season_next_year : Term → Term
same_season_next_year season = record { half = season.half; year = season.year + 1 }

-- ---- where a season begins and ends

-- the year in which a season begins
abbrev pub first_year : Term → ℕ
first_year season = 2000 + season.year

-- summer begins in March, winter in October
abbrev pub first_month : Half → ℕ
first_month Summer = 3
first_month Winter = 10

-- the year and the month in which the season that follows begins
abbrev pub year_after : Half → ℕ → ℕ
year_after Summer year = year
year_after Winter year = year + 1

abbrev pub month_after : Half → ℕ
month_after Summer = 10
month_after Winter = 3

-- the day number of the first date: the last Sunday of March or of October
abbrev pub first_number : Term → ℤ
first_number season = last_sunday_number (pos (first_year season)) (first_month season.half)

-- the day number of the date after the last: the Sunday with which the next season begins
abbrev pub number_after : Term → ℤ
number_after season =
    last_sunday_number (pos (year_after season.half (first_year season))) (month_after season.half)

-- the season that follows: the winter of the same year, or the summer of the next
abbrev pub half_after : Half → Half
half_after Summer = Winter
half_after Winter = Summer

abbrev pub season_after : Term → Term
season_after season = record {
  half = half_after season.half;
  year = year_after season.half season.year;
}

-- ---- the days of a season. A number is a day of the season where it is below the number of dates

-- how many dates the season has
unfoldable pub date_count : Term → ℕ
date_count season = unsigned_abs (number_after season -ℤ first_number season)

-- the civil date of a day: that of day 0 is the season's last Sunday of March or October, and each
-- other one follows the one before
unfoldable pub date_at : Term → ℕ → CivilDate
date_at season zero = record {
  year = first_year season;
  month = first_month season.half;
  of_month = last_sunday (pos (first_year season)) (first_month season.half);
}
date_at season (suc day) = next_date (date_at season day)

-- so many days from a first one
unfoldable pub days_from : ℕ → ℕ → List ℕ
days_from first zero = []
days_from first (suc n) = first ∷ days_from (suc first) n

-- a season is the list of its civil dates
abbrev pub season_dates : Term → List CivilDate
season_dates season = map (date_at season) (days_from 0 (date_count season))

-- Monday is 1 and Sunday 7
unfoldable pub weekday_on : Term → ℕ → ℕ
weekday_on season day = weekday_number (first_number season +ℤ pos day) + 1

-- ---- days named by a month and a day of the month

-- the year of a month: of a winter, the months up to June are in the second year
abbrev pub year_of_month : Half → ℕ → ℕ → ℕ
year_of_month Summer year month = year
year_of_month Winter year month = if nat_le month 6 then year + 1 else year

-- a month and a day of the month name a date of the calendar, in the season's year of that month
abbrev pub NamesDate : Term → ℕ → ℕ → Type 0
NamesDate season month of_month =
    IsDate (pos (year_of_month season.half (first_year season) month)) (pos month) (pos of_month)

-- its day number
abbrev pub number_named : Term → ℕ → ℕ → ℤ
number_named season month of_month =
    days_from_civil (pos (year_of_month season.half (first_year season) month)) month of_month

-- and the day of the season
abbrev pub IsDayNamed : Term → ℕ → ℕ → ℕ → Type 0
IsDayNamed season month of_month day = NamesDate season month of_month
    × (first_number season +ℤ pos day ≡ number_named season month of_month)
    × (day < date_count season)

-- a date before the first or after the last
abbrev pub IsOutside : Term → ℤ → Type 0
IsOutside season number = (number <ℤ first_number season) ⊎ (number_after season ≤ℤ number)

abbrev pub IsDayOfFault : DayFault → Type 0
IsDayOfFault NoSuchDate = Unit {0}
IsDayOfFault OutsideSeason = Unit {0}
IsDayOfFault Reversed = ⊥
IsDayOfFault NoDates = ⊥
IsDayOfFault Memory = ⊥

-- ---- the dates of a period

-- whether a weekday, from 1 for Monday to 7 for Sunday, is in the set, whose bit 0 is Monday
abbrev pub has_weekday : ℕ → ℕ → Bool
has_weekday days weekday = (days / 2 ^ (weekday - 1)) % 2 == 1

-- whether the weekday of a day is in the set
unfoldable pub is_on : Term → ℕ → ℕ → Bool
is_on season days day = has_weekday days (weekday_on season day)

-- the days from the first to the last whose weekday is in the set
abbrev pub dates_of : Term → Period → List ℕ
dates_of season period =
    filter (is_on season period.days)
    (days_from period.first.0 (period.last.0 + 1 - period.first.0))

abbrev pub IsDatesFault : DayFault → Type 0
IsDatesFault NoSuchDate = ⊥
IsDatesFault OutsideSeason = ⊥
IsDatesFault Reversed = Unit {0}
IsDatesFault NoDates = Unit {0}
IsDatesFault Memory = Unit {0}
