-- Civil dates, and the last Sundays of months, on the calendar of the library of dates.
use Rattle.std.specs.Prelude.{◌≡◌, ℕ, ◌==◌, ◌+◌, ◌-◌, ◌%◌, ◌<◌, nat_lt, if◌then◌else◌, ℤ, pos}
use Rattle.std.specs.Int.{IsInRange}
use Rattle.jiff_core.specs.Calendar.{days_from_civil, days_in_month, weekday_number}
use Rattle.jiff_core.specs.declared.civil.date.Date.{Date}

-- a date of the civil calendar; months and the days of a month count from 1
pub record CivilDate : Type 0 where
  pub year : ℕ
  pub month : ℕ
  pub of_month : ℕ

-- the day after: the next day of the month, or the first of the next month, or 1 January of the
-- next year
abbrev pub next_date : CivilDate → CivilDate
next_date date =
    if nat_lt date.of_month (days_in_month (pos date.year) date.month)
    then record { year = date.year; month = date.month; of_month = date.of_month + 1 }
    else (if date.month == 12 then record { year = date.year + 1; month = 1; of_month = 1 }
    else record { year = date.year; month = date.month + 1; of_month = 1 })

-- the library's date is this civil date
abbrev pub HasDate : Date → CivilDate → Type 0
HasDate date civil = (date.year ≡ pos civil.year) × (date.month ≡ civil.month)
    × (date.day ≡ civil.of_month)

-- a Sunday of the month, and the month has no day a week later (Monday is weekday 0, Sunday 6)
pub record IsLastSunday (year : ℤ) (month of_month : ℕ) : Type 0 where
  pub in_month : IsInRange 1 (days_in_month year month) of_month
  pub sunday : weekday_number (days_from_civil year month of_month) ≡ 6
  pub last : days_in_month year month < of_month + 7

-- the day of the month on which its last Sunday falls: as many days before the last day as its
-- weekday is after Sunday
abbrev pub last_sunday : ℤ → ℕ → ℕ
last_sunday year month =
    days_in_month year month
    - (weekday_number (days_from_civil year month (days_in_month year month)) + 1) % 7

-- the day number of that day
abbrev pub last_sunday_number : ℤ → ℕ → ℤ
last_sunday_number year month = days_from_civil year month (last_sunday year month)
