-- The civil dates of a season against their day numbers, and against the months and days that name
-- them.
use Rattle.std.proofs.Common.{◌≡◌, ℕ, zero, suc, ◌+◌, ◌<◌, ◌≤◌, inl, inr, refl, sym, ap, subst, ◌∙◌, arith, ℤ, pos, ◌+ℤ◌, ◌-ℤ◌}
use Rattle.std.specs.Int.{IsInRange}
use Rattle.std.proofs.lemmas.Bool.{lt-ltb, le-ltb, le-leb, lt-leb, ne_eqb, eq-eqb, cases_lt, cases_eq}
use Rattle.jiff_core.specs.declared.civil.date.Date.{Date}
use Rattle.jiff_core.specs.Calendar.{day_count, days_from_civil, days_in_month, IsYear, IsCivilDate, IsEpochDay}
use Rattle.std.proofs.lemmas.Int.{ints}
use Rattle.jiff_core.proofs.CalendarLemmas.{days_from_civil-day_count, days_in_month_bounds, day_count_bounds, day_count-lt_month, day_count-year_is, day_count-next_year, day_count-day_of_year, day_of_year_bound}
use Rattle.jiff_core.proofs.DateLemmas.{epoch_day_injective, days_from_civil-day, days_from_civil-next_month, days_from_civil-next_year}
use Rattle.jiff_core.specs.Date.{epoch_day}
use Rattle.season_days.specs.Dates.{CivilDate, next_date, HasDate, last_sunday, IsLastSunday}
use Rattle.season_days.specs.Seasons.{first_year, first_month, year_after, month_after, first_number, date_count, date_at, year_of_month, NamesDate, number_named, IsDayNamed, IsOutside}
use Rattle.season_days.specs.Term.{Term}
use Rattle.season_days.specs.declared.season.Half.{Half}
use Rattle.season_days.specs.declared.season.Half.TheVariants.{Summer, Winter}
use Rattle.season_days.proofs.SeasonLemmas.{last_sunday_range, last_sunday_is, is_last_sunday, date_count-after, date_count_small}

-- the calendar has the date, and this is its day number
pub record IsAt (number : ℤ) (date : CivilDate) : Type 0 where
  pub month_in : IsInRange 1 12 date.month
  pub day_in : IsInRange 1 (days_in_month (pos date.year) date.month) date.of_month
  pub number_is : days_from_civil (pos date.year) date.month date.of_month ≡ number

abbrev pub IsNext : ℤ → CivilDate → CivilDate → Type 0
IsNext number date next = IsAt (number +ℤ pos 1) next × (next.year ≤ date.year + 1)

next_day : (number : ℤ) (date : CivilDate) → IsAt number date → date.of_month < days_in_month (pos date.year) date.month
    → IsNext number date (record { year = date.year; month = date.month; of_month = date.of_month + 1 })
next_day number date is lt =
    let moved = days_from_civil-day (pos date.year) date.month date.of_month (date.of_month + 1) is.day_in.0 (omega arith) in
    (record { month_in = is.month_in; day_in = (omega arith, omega arith); number_is = omega (arith, ints, moved, is.number_is) }, omega arith)

next_month : (number : ℤ) (date : CivilDate) → IsAt number date → days_in_month (pos date.year) date.month ≤ date.of_month → date.month < 12
    → IsNext number date (record { year = date.year; month = date.month + 1; of_month = 1 })
next_month number date is le early =
    let day_in = is.day_in in
    let last : date.of_month ≡ days_in_month (pos date.year) date.month = omega (arith, day_in) in
    let month_in = is.month_in in
    let long = days_in_month_bounds (pos date.year) (date.month + 1) in
    let moved = days_from_civil-next_month (pos date.year) date.month date.of_month month_in.0 last in
    (record { month_in = (omega arith, omega arith); day_in = (omega arith, omega (arith, long)); number_is = moved ∙ ap (λ (z : ℤ). z +ℤ pos 1) is.number_is }, omega arith)

next_year : (number : ℤ) (date : CivilDate) → IsAt number date → days_in_month (pos date.year) date.month ≤ date.of_month → date.month ≡ 12
    → IsNext number date (record { year = date.year + 1; month = 1; of_month = 1 })
next_year number date is le december =
    let day_in = is.day_in in
    let long : days_in_month (pos date.year) date.month ≡ 31 = rw december refl in
    let last : date.of_month ≡ 31 = omega (arith, day_in, long) in
    let number_is : days_from_civil (pos date.year) 12 31 ≡ number = rw (← december, ← last) is.number_is in
    let bounds = days_in_month_bounds (pos (date.year + 1)) 1 in
    let moved = days_from_civil-next_year (pos date.year) (pos (date.year + 1)) (omega (arith, ints)) (omega (arith, ints)) in
    (record { month_in = (omega arith, omega arith); day_in = (omega arith, omega (arith, bounds)); number_is = moved ∙ ap (λ (z : ℤ). z +ℤ pos 1) number_is }, omega arith)

next_at : (number : ℤ) (date : CivilDate) → IsAt number date → IsNext number date (next_date date)
next_at number date is =
    elim (cases_lt date.of_month (days_in_month (pos date.year) date.month)) [
      | inl lt ↦ rw (lt-ltb _ _ lt) (next_day number date is lt)
      | inr le ↦ elim (cases_eq date.month 12) [
        | inl december ↦ rw (le-ltb _ _ le, eq-eqb _ _ december) (next_year number date is le december)
        | inr other ↦ let month_in = is.month_in in rw (le-ltb _ _ le, ne_eqb _ _ other) (next_month number date is le (omega (arith, month_in, other)))
      ]
    ]

first_month_in : (half : Half) → IsInRange 1 12 (first_month half)
first_month_in Summer = (omega arith, omega arith)
first_month_in Winter = (omega arith, omega arith)

first_is_at : (season : Term) → IsAt (first_number season +ℤ pos 0) (date_at season 0)
unfolding date_at
first_is_at season =
    let sunday = is_last_sunday (pos (first_year season)) (first_month season.half) in
    record { month_in = first_month_in season.half; day_in = sunday.in_month; number_is = omega (arith, ints) }

-- each date of the list is a date of the calendar, and the day numbers go up by one
pub is_at : (season : Term) (day : ℕ) → IsAt (first_number season +ℤ pos day) (date_at season day) × ((date_at season day).year ≤ first_year season + day)
unfolding date_at
is_at season zero = (first_is_at season, omega arith)
is_at season (suc day) =
    let before = is_at season day in
    let after = next_at (first_number season +ℤ pos day) (date_at season day) before.0 in
    let number : first_number season +ℤ pos day +ℤ pos 1 ≡ first_number season +ℤ pos (suc day) = omega (arith, ints) in
    (subst (λ (z : ℤ). IsAt z (next_date (date_at season day))) number after.0, omega (arith, after.1, before.1))

-- the library's date of the first day
pub first_date : (season : Term) (d : Date) → d.year ≡ pos (first_year season) → d.month ≡ first_month season.half → IsLastSunday d.year d.month d.day → HasDate d (date_at season 0)
unfolding date_at
first_date season d year month is = (year, month, last_sunday_is d.year d.month d.day is ∙ rw (year, month) refl)

-- dates of a season, and the one after them, are dates of the library
civil_at : (season : Term) (day : ℕ) → season.year < 100 → day ≤ date_count season → IsCivilDate (pos (date_at season day).year) (date_at season day).month (date_at season day).of_month
civil_at season day small le =
    let at = is_at season day in
    let few = date_count_small season in
    ((omega (arith, ints), omega (arith, ints, at.1, few, le, small)), at.0.month_in, at.0.day_in)

date_from : (y : ℤ) (m d : ℕ) → IsCivilDate y m d → Date
date_from y m d civil = record { year = y; month = m; day = d; year_in = civil.0; month_in = civil.1; day_in = civil.2 }

same_date : (y₁ : ℤ) (m₁ d₁ : ℕ) (y₂ : ℤ) (m₂ d₂ : ℕ) → IsCivilDate y₁ m₁ d₁ → IsCivilDate y₂ m₂ d₂ → days_from_civil y₁ m₁ d₁ ≡ days_from_civil y₂ m₂ d₂ → (y₁ ≡ y₂) × (m₁ ≡ m₂) × (d₁ ≡ d₂)
unfolding date_from
same_date y₁ m₁ d₁ y₂ m₂ d₂ one two e = epoch_day_injective (date_from y₁ m₁ d₁ one) (date_from y₂ m₂ d₂ two) e

-- the library has the date of each day of a season
pub in_calendar : (season : Term) (day : ℕ) (n : ℤ) → season.year < 100 → day < date_count season → n ≡ first_number season +ℤ pos day → IsEpochDay n
in_calendar season day n small lt e =
    let civil = civil_at season day small (omega (arith, lt)) in
    let bounds = day_count_bounds _ _ _ civil in
    let number = (is_at season day).0.number_is in
    (omega (arith, ints, days_from_civil-day_count, bounds, number, e), omega (arith, ints, days_from_civil-day_count, bounds, number, e))

-- the library's date with the day number is the civil date
pub date_is : (season : Term) (day : ℕ) (d : Date) → season.year < 100 → day ≤ date_count season → epoch_day d ≡ first_number season +ℤ pos day → HasDate d (date_at season day)
date_is season day d small le e =
    same_date d.year d.month d.day _ _ _ (d.year_in, d.month_in, d.day_in) (civil_at season day small le) (e ∙ sym (is_at season day).0.number_is)

year_after_small : (half : Half) (y : ℕ) → year_after half y ≤ y + 1
year_after_small Summer y = omega arith
year_after_small Winter y = omega arith

month_after_in : (half : Half) → IsInRange 1 12 (month_after half)
month_after_in Summer = (omega arith, omega arith)
month_after_in Winter = (omega arith, omega arith)

-- after the last date comes the last Sunday with which the next season begins
pub date_after_is : (season : Term) → season.year < 100 → ((date_at season (date_count season)).year ≡ year_after season.half (first_year season))
    × ((date_at season (date_count season)).month ≡ month_after season.half)
    × ((date_at season (date_count season)).of_month ≡ last_sunday (pos (year_after season.half (first_year season))) (month_after season.half))
date_after_is season small =
    let sunday = is_last_sunday (pos (year_after season.half (first_year season))) (month_after season.half) in
    let year = year_after_small season.half (first_year season) in
    let same = same_date _ _ _ (pos (year_after season.half (first_year season))) (month_after season.half) _ (civil_at season (date_count season) small (omega arith))
    ((omega (arith, ints), omega (arith, ints, year, small)), month_after_in season.half, sunday.in_month)
    ((is_at season (date_count season)).0.number_is ∙ date_count-after season) in
    let year_is = same.0 in
    (omega (arith, ints, year_is), same.1, same.2)

-- ---- the year of a date

count_at : (season : Term) (day : ℕ) → day_count (pos (date_at season day).year) (date_at season day).month (date_at season day).of_month
    ≡ day_count (pos (first_year season)) (first_month season.half) (last_sunday (pos (first_year season)) (first_month season.half)) + day
count_at season day = let number = (is_at season day).0.number_is in omega (arith, ints, days_from_civil-day_count, number)

count_after : (season : Term) → day_count (pos (year_after season.half (first_year season))) (month_after season.half) (last_sunday (pos (year_after season.half (first_year season))) (month_after season.half))
    ≡ day_count (pos (first_year season)) (first_month season.half) (last_sunday (pos (first_year season)) (first_month season.half)) + date_count season
count_after season = let after = date_count-after season in omega (arith, ints, days_from_civil-day_count, after)

-- a date from a last Sunday of the year on, and before another one or the year's end
in_year : (y y₂ : ℤ) (m d : ℕ) → IsYear y → IsCivilDate y₂ m d → day_count y 1 1 ≤ day_count y₂ m d → (later : ℕ) → IsInRange 1 12 later → day_count y₂ m d < day_count y later (last_sunday y later) → y₂ ≡ y
in_year y y₂ m d year civil low later later_in high =
    let sunday = is_last_sunday y later in
    let in_month = sunday.in_month in
    let there = day_count-day_of_year y later (last_sunday y later) in_month.0 in
    let bound = day_of_year_bound y later (last_sunday y later) (year, later_in, in_month) in
    day_count-year_is y y₂ m d year civil low (omega (arith, high, there, bound))

-- the year does not begin after its days
year_begins : (y : ℤ) (m : ℕ) → 1 ≤ m → day_count y 1 1 ≤ day_count y m (last_sunday y m)
year_begins y m low =
    let range = last_sunday_range y m in
    omega (arith, day_count-day_of_year y m (last_sunday y m) range.2, range.2)

is_year : (n : ℕ) → n ≤ 2100 → IsYear (pos n)
is_year n le = (omega (arith, ints), omega (arith, ints, le))

-- a date of a year that is not before the last Sunday of a month is of that month or a later one
month_from : (y y₂ : ℤ) (m d first : ℕ) → y₂ ≡ y → IsCivilDate y₂ m d → day_count y first (last_sunday y first) ≤ day_count y₂ m d → first ≤ m
month_from y y₂ m d first year civil le =
    elim (cases_lt m first) [
      | inl lt ↦
          let range = last_sunday_range y₂ first in
          let before = day_count-lt_month y₂ m d first (last_sunday y₂ first) civil range.2 lt in
          let same : day_count y₂ first (last_sunday y₂ first) ≡ day_count y first (last_sunday y first) = rw year refl in
          absurd (omega (arith, before, same, le))
      | inr ge ↦ ge
    ]

-- and one that is before it is of that month or an earlier one
month_to : (y y₂ : ℤ) (m d last : ℕ) → y₂ ≡ y → IsYear y → IsInRange 1 12 last → 1 ≤ d → day_count y₂ m d < day_count y last (last_sunday y last) → m ≤ last
month_to y y₂ m d last year is_year last_in low lt =
    elim (cases_lt last m) [
      | inl later ↦
          let in_month = (is_last_sunday y last).in_month in
          let after = day_count-lt_month y last (last_sunday y last) m d (is_year, last_in, in_month) low later in
          let same : day_count y₂ m d ≡ day_count y m d = rw year refl in
          absurd (omega (arith, after, same, lt))
      | inr le ↦ le
    ]

-- what of a date of the season its year follows from, in the counts of days
record IsPlaced (half : Half) (y : ℕ) (date : CivilDate) : Type 0 where
  pub small : y ≤ 2099
  pub civil : IsCivilDate (pos date.year) date.month date.of_month
  pub from : day_count (pos y) (first_month half) (last_sunday (pos y) (first_month half)) ≤ day_count (pos date.year) date.month date.of_month
  pub to : day_count (pos date.year) date.month date.of_month < day_count (pos (year_after half y)) (month_after half) (last_sunday (pos (year_after half y)) (month_after half))

year_of : (half : Half) (y : ℕ) (date : CivilDate) → IsPlaced half y date → date.year ≡ year_of_month half y date.month
year_of Summer y date is =
    let begins = year_begins (pos y) 3 (omega arith) in
    let small = is.small in
    let from = is.from in
    let e = in_year (pos y) (pos date.year) date.month date.of_month (is_year y (omega (arith, small))) is.civil (omega (arith, begins, from)) 10 (omega arith, omega arith) is.to in
    omega (arith, ints, e)
year_of Winter y date is =
    let small = is.small in
    let from = is.from in
    let year = is_year y (omega (arith, small)) in
    let next = is_year (y + 1) (omega (arith, small)) in
    elim (cases_lt (day_count (pos date.year) date.month date.of_month) (day_count (pos (y + 1)) 1 1)) [
      | inl before ↦
          let begins = year_begins (pos y) 10 (omega arith) in
          let turn = day_count-next_year (pos y) (pos (y + 1)) (omega (arith, ints)) (omega (arith, ints)) in
          let e = day_count-year_is (pos y) (pos date.year) date.month date.of_month year is.civil (omega (arith, begins, from)) (omega (arith, before, turn)) in
          let late = month_from (pos y) (pos date.year) date.month date.of_month 10 e is.civil from in
          rw (lt-leb date.month 6 (omega (arith, late))) (omega (arith, ints, e))
      | inr after ↦
          let e = in_year (pos (y + 1)) (pos date.year) date.month date.of_month next is.civil after 3 (omega arith, omega arith) is.to in
          let early = month_to (pos (y + 1)) (pos date.year) date.month date.of_month 3 e next (omega arith, omega arith) is.civil.2.0 is.to in
          rw (le-leb date.month 6 (omega (arith, early))) (omega (arith, ints, e))
    ]

year_at : (season : Term) (day : ℕ) → season.year < 100 → day < date_count season → (date_at season day).year ≡ year_of_month season.half (first_year season) (date_at season day).month
year_at season day small lt =
    let here = count_at season day in
    let after = count_after season in
    year_of season.half (first_year season) (date_at season day)
    (record { small = omega (arith, small); civil = civil_at season day small (omega (arith, lt)); from = omega (arith, here); to = omega (arith, here, after, lt) })

-- ---- months and days that name a day

civil_named : (season : Term) (month of_month : ℕ) → NamesDate season month of_month → IsCivilDate (pos (year_of_month season.half (first_year season) month)) month of_month
civil_named season month of_month named =
    let month_in = named.1 in
    let day_in = named.2 in
    (named.0, (omega (arith, ints, month_in), omega (arith, ints, month_in)), (omega (arith, ints, day_in), omega (arith, ints, day_in)))

-- the civil date of the day that a month and a day of the month name
pub named_at : (season : Term) (month of_month day : ℕ) → season.year < 100 → IsDayNamed season month of_month day → ((date_at season day).month ≡ month) × ((date_at season day).of_month ≡ of_month)
named_at season month of_month day small is =
    let lt = is.2 in
    let same = same_date _ _ _ _ _ _ (civil_at season day small (omega (arith, lt))) (civil_named season month of_month is.0) ((is_at season day).0.number_is ∙ is.1) in
    (same.1, same.2)

-- each day is named by its civil date
pub at_named : (season : Term) (day : ℕ) → season.year < 100 → day < date_count season → IsDayNamed season (date_at season day).month (date_at season day).of_month day
at_named season day small lt =
    let civil = civil_at season day small (omega (arith, lt)) in
    let year = year_at season day small lt in
    let month_in = civil.1 in
    let day_in : IsInRange 1 (days_in_month (pos (year_of_month season.half (first_year season) (date_at season day).month)) (date_at season day).month) (date_at season day).of_month = rw (← year) civil.2 in
    let is_year : IsYear (pos (year_of_month season.half (first_year season) (date_at season day).month)) = rw (← year) civil.0 in
    let number : days_from_civil (pos (date_at season day).year) (date_at season day).month (date_at season day).of_month ≡ number_named season (date_at season day).month (date_at season day).of_month =
    ap (λ (y : ℕ). days_from_civil (pos y) (date_at season day).month (date_at season day).of_month) year in (
      (is_year, (omega (arith, ints, month_in), omega (arith, ints, month_in)), (omega (arith, ints, day_in), omega (arith, ints, day_in))),
      sym (is_at season day).0.number_is ∙ number,
      lt,
    )

pub day_named : (season : Term) (month of_month day : ℕ) → season.year < 100 → day < date_count season → (date_at season day).month ≡ month → (date_at season day).of_month ≡ of_month → IsDayNamed season month of_month day
day_named season month of_month day small lt m d = subst (λ (n : ℕ). IsDayNamed season n of_month day) m (subst (λ (n : ℕ). IsDayNamed season (date_at season day).month n day) d (at_named season day small lt))

-- a date that lies as many days after the first as the season has, or more, is after the last
pub outside_after : (season : Term) (n : ℕ) (first date : Date) (days : ℤ) → epoch_day first ≡ first_number season
    → days ≡ epoch_day date -ℤ epoch_day first → days ≡ pos n → date_count season ≤ n → IsOutside season (epoch_day date)
outside_after season n first date days f e same le =
    let after = date_count-after season in
    inr (omega (arith, ints, f, e, same, le, after))
