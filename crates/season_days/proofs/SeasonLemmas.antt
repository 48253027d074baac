-- Where seasons begin, and how long they are.
use Rattle.std.proofs.Common.{◌≡◌, ℕ, ◌+◌, ◌-◌, ◌%◌, ◌<◌, ◌≤◌, refl, sym, ap, ◌∙◌, arith, ℤ, pos, negsuc, ◌^◌, eqb, ◌/◌, ◌+ℤ◌, ◌-ℤ◌}
use Rattle.std.proofs.Common.{true}
use Rattle.std.proofs.lemmas.Bool.{agree_below_at}
use Rattle.jiff_core.specs.declared.civil.date.Date.{Date}
use Rattle.jiff_core.specs.Calendar.{days_from_civil, days_in_month, days_of_months, weekday_number}
use Rattle.std.proofs.lemmas.Int.{ints}
use Rattle.jiff_core.proofs.CalendarLemmas.{days_from_civil-day_count, day_count-day_of_year, days_of_months_more, days_of_months-zero, days_in_month_bounds, weekday_number-add, weekday_number_bound}
use Rattle.jiff_core.proofs.DateLemmas.{weekday_number-day, days_from_civil-next_year}
use Rattle.jiff_core.specs.Date.{epoch_day, IsNthWeekdayOfMonth}
use Rattle.jiff_core.specs.declared.civil.weekday.Weekday.TheVariants.{Sunday}
use Rattle.season_days.specs.Dates.{last_sunday, last_sunday_number, IsLastSunday}
use Rattle.season_days.specs.Seasons.{first_year, first_month, half_after, season_after, year_after, month_after, first_number, number_after, weekday_on, date_count, is_on}
use Rattle.season_days.specs.Term.{Term}
use Rattle.season_days.specs.declared.season.Half.{Half}
use Rattle.season_days.specs.declared.season.Half.TheVariants.{Summer, Winter}

-- a Sunday with no other after it in its month is the last
pub last_sunday_is : (y : ℤ) (m d : ℕ) → IsLastSunday y m d → d ≡ last_sunday y m
last_sunday_is y m d is =
    let n = days_in_month y m in
    let last = weekday_number-day y m d n is.in_month.0 is.in_month.1 in
    omega (arith, last, is.sunday, is.last)

pub last_sunday_range : (y : ℤ) (m : ℕ) → (last_sunday y m ≤ days_in_month y m) × (days_in_month y m < last_sunday y m + 7) × (1 ≤ last_sunday y m)
last_sunday_range y m = omega (arith, days_in_month_bounds y m)

pub is_sunday : (y : ℤ) (m : ℕ) → weekday_number (last_sunday_number y m) ≡ 6
is_sunday y m =
    let n = days_in_month y m in
    let range = last_sunday_range y m in
    let wn = weekday_number_bound (days_from_civil y m n) in
    let wd = weekday_number_bound (last_sunday_number y m) in
    let step = weekday_number-day y m (last_sunday y m) n range.2 range.0 in
    omega (arith, step, wn, wd, days_in_month_bounds y m)

pub is_last_sunday : (y : ℤ) (m : ℕ) → IsLastSunday y m (last_sunday y m)
is_last_sunday y m = let range = last_sunday_range y m in record { in_month = (range.2, range.0); sunday = is_sunday y m; last = range.1 }

-- the days of a year before October, from those before March
summer_months : (y : ℤ) → days_of_months y 9 ≡ days_of_months y 2 + 214
summer_months y =
    omega (arith, days_of_months_more y 9 (omega arith), days_of_months_more y 8 (omega arith), days_of_months_more y 7 (omega arith), days_of_months_more y 6 (omega arith), days_of_months_more y 5 (omega arith), days_of_months_more y 4 (omega arith), days_of_months_more y 3 (omega arith))

-- those before December, from those before October
autumn_months : (y : ℤ) → days_of_months y 11 ≡ days_of_months y 9 + 61
autumn_months y = omega (arith, days_of_months_more y 11 (omega arith), days_of_months_more y 10 (omega arith))

-- what the library says of the last Sunday of a date's month
pub found_last_sunday : (within d : Date) → IsNthWeekdayOfMonth within (negsuc 0) Sunday d → (d.year ≡ within.year) × (d.month ≡ within.month) × IsLastSunday d.year d.month d.day
found_last_sunday within d is = (is.0.0, is.0.1, record { in_month = d.day_in; sunday = is.0.2; last = omega (arith, ints, is.1.0, d.day_in.1) })

-- the day number of a last Sunday
pub last_sunday_at : (y : ℤ) (m : ℕ) (d : Date) → d.year ≡ y → d.month ≡ m → IsLastSunday d.year d.month d.day → epoch_day d ≡ last_sunday_number y m
last_sunday_at y m d year month is =
    let day = last_sunday_is d.year d.month d.day is in
    let here : epoch_day d ≡ last_sunday_number d.year d.month = ap (days_from_civil d.year d.month) day in
    here ∙ rw (year, month) refl

-- a day number by its place in the year
by_place : (y : ℤ) (m d : ℕ) → 1 ≤ d → days_from_civil y m d +ℤ pos 1 ≡ days_from_civil y 1 1 +ℤ pos (days_of_months y (m - 1) + d)
by_place y m d low = omega (arith, ints, days_from_civil-day_count, day_count-day_of_year y m d low)

-- 1 January of the next year
next_january : (y : ℕ) → days_from_civil (pos (y + 1)) 1 1 ≡ days_from_civil (pos y) 1 1 +ℤ pos (days_of_months (pos y) 11 + 31)
next_january y =
    let first = days_from_civil-next_year (pos y) (pos (y + 1)) (omega (arith, ints)) (omega (arith, ints)) in
    omega (arith, ints, first, by_place (pos y) 12 31 (omega arith))

early_months : (y : ℤ) → days_of_months y 2 ≡ 31 + days_in_month y 2
early_months y = omega (arith, days_of_months_more y 2 (omega arith), days_of_months_more y 1 (omega arith), days_of_months-zero y)

-- whole weeks lie between two Sundays
whole_weeks : (a b : ℤ) (n : ℕ) → weekday_number a ≡ 6 → weekday_number b ≡ 6 → b ≡ a +ℤ pos n → n % 7 ≡ 0
whole_weeks a b n sa sb e = omega (arith, weekday_number-add a b n e, sa, sb)

pub summer_length : (y : ℤ) → (n : ℕ) × ((last_sunday_number y 3 +ℤ pos n ≡ last_sunday_number y 10) × (n ≤ 217) × (210 ≤ n))
summer_length y =
    let a = last_sunday_range y 3 in
    let b = last_sunday_range y 10 in
    let n = 214 + last_sunday y 10 - last_sunday y 3 in
    let e : last_sunday_number y 10 ≡ last_sunday_number y 3 +ℤ pos n =
    omega (arith, ints, by_place y 3 (last_sunday y 3) a.2, by_place y 10 (last_sunday y 10) b.2, summer_months y, a.0, a.1, b.0, b.1) in
    let weeks = whole_weeks _ _ n (is_sunday y 3) (is_sunday y 10) e in
    (n, (sym e, omega (arith, weeks, a.0, a.1, b.0, b.1), omega (arith, weeks, a.0, a.1, b.0, b.1)))

pub winter_length : (y : ℕ) → (n : ℕ) × ((last_sunday_number (pos y) 10 +ℤ pos n ≡ last_sunday_number (pos (y + 1)) 3) × (n ≤ 217) × (147 ≤ n))
winter_length y =
    let a = last_sunday_range (pos y) 10 in
    let b = last_sunday_range (pos (y + 1)) 3 in
    let early = early_months (pos (y + 1)) in
    let n = (92 + days_of_months (pos (y + 1)) 2 + last_sunday (pos (y + 1)) 3) - last_sunday (pos y) 10 in
    let e : last_sunday_number (pos (y + 1)) 3 ≡ last_sunday_number (pos y) 10 +ℤ pos n =
    omega (arith, ints, by_place (pos y) 10 (last_sunday (pos y) 10) a.2, by_place (pos (y + 1)) 3 (last_sunday (pos (y + 1)) 3) b.2, next_january y, autumn_months (pos y), a.0, a.1, b.0, b.1, early, days_in_month_bounds (pos (y + 1)) 2) in
    let weeks = whole_weeks _ _ n (is_sunday (pos y) 10) (is_sunday (pos (y + 1)) 3) e in
    (n, (sym e, omega (arith, weeks, a.0, a.1, b.0, b.1, early, days_in_month_bounds (pos (y + 1)) 2), omega (arith, weeks, a.0, a.1, b.0, b.1, early, days_in_month_bounds (pos (y + 1)) 2)))

half_length : (half : Half) (y : ℕ) → (n : ℕ) × ((last_sunday_number (pos y) (first_month half) +ℤ pos n ≡ last_sunday_number (pos (year_after half y)) (month_after half)) × (n ≤ 217) × (147 ≤ n))
half_length Summer y = let n = summer_length (pos y) in (n.0, (n.1.0, n.1.1, omega (arith, n.1.2)))
half_length Winter y = let n = winter_length y in (n.0, (n.1.0, n.1.1, n.1.2))

-- the number of dates as a distance of day numbers
abbrev pub HasLength : Term → ℕ → Type 0
HasLength season n = first_number season +ℤ pos n ≡ number_after season

-- a season has between 147 and 217 dates
pub season_length : (season : Term) → (n : ℕ) × (HasLength season n × (n ≤ 217) × (147 ≤ n))
season_length season = half_length season.half (first_year season)

-- the days between the first date and the one after the last
pub length_from : (season : Term) (first after : Date) (days : ℤ) → epoch_day first ≡ first_number season → epoch_day after ≡ number_after season → days ≡ epoch_day after -ℤ epoch_day first → (n : ℕ) × ((days ≡ pos n) × HasLength season n × (n ≤ 217) × (147 ≤ n))
length_from season first after days f a d =
    let n = season_length season in
    (n.0, (omega (arith, ints, f, a, d, n.1.0), n.1.0, n.1.1, n.1.2))

-- the first date of a season is a Sunday
pub weekday_of_day : (season : Term) (day : ℕ) → (day % 7 + 6) % 7 + 1 ≡ weekday_on season day
unfolding weekday_on
weekday_of_day season day =
    let sunday = is_sunday (pos (first_year season)) (first_month season.half) in
    omega (arith, weekday_number-add (first_number season) (first_number season +ℤ pos day) day refl, sunday)

-- the number of dates is the length
pub date_count-is : (season : Term) (n : ℕ) → HasLength season n → n ≡ date_count season
unfolding date_count
date_count-is season n h = let e : number_after season -ℤ first_number season ≡ pos n = omega (arith, ints, h) in rw e refl

-- the season that follows begins after so many dates
pub date_count-after : (season : Term) → first_number season +ℤ pos (date_count season) ≡ number_after season
date_count-after season = let n = season_length season in rw (← date_count-is season n.0 n.1.0) n.1.0

pub date_count_large : (season : Term) → 147 ≤ date_count season
date_count_large season = let n = season_length season in omega (arith, date_count-is season n.0 n.1.0, n.1.2)

pub date_count_small : (season : Term) → date_count season ≤ 217
date_count_small season = let n = season_length season in omega (arith, date_count-is season n.0 n.1.0, n.1.1)

pub date_count-weeks : (season : Term) → date_count season % 7 ≡ 0
date_count-weeks season =
    whole_weeks (first_number season) (number_after season) (date_count season) (is_sunday _ (first_month season.half)) (is_sunday _ (month_after season.half)) (sym (date_count-after season))

-- the first day is a Sunday
pub weekday_on-first : (season : Term) → weekday_on season 0 ≡ 7
weekday_on-first season = sym (weekday_of_day season 0)

pub weekday_on-next : (season : Term) (day : ℕ) → weekday_on season (day + 1) ≡ weekday_on season day % 7 + 1
weekday_on-next season day = omega (arith, weekday_of_day season day, weekday_of_day season (day + 1))

pub weekday_on-bounds : (season : Term) (day : ℕ) → (1 ≤ weekday_on season day) × (weekday_on season day ≤ 7)
weekday_on-bounds season day = omega (arith, weekday_of_day season day)

-- weekdays come again after a week
pub is_on-week : (season : Term) (days x y : ℕ) → x % 7 ≡ y % 7 → is_on season days x ≡ is_on season days y
unfolding is_on
is_on-week season days x y same =
    let e : weekday_on season x ≡ weekday_on season y = omega (arith, weekday_of_day season x, weekday_of_day season y, same) in
    ap (λ (w : ℕ). eqb ((days / 2 ^ (w - 1)) % 2) 1) e

-- each season begins on the same weekday
pub is_on-seasons : (season other : Term) (days day : ℕ) → is_on season days day ≡ is_on other days day
unfolding is_on
is_on-seasons season other days day =
    let e : weekday_on season day ≡ weekday_on other day = sym (weekday_of_day season day) ∙ weekday_of_day other day in
    ap (λ (w : ℕ). eqb ((days / 2 ^ (w - 1)) % 2) 1) e

-- every weekday is in the whole week
pub is_on-every : (season : Term) (day : ℕ) → is_on season 127 day ≡ true
unfolding is_on
is_on-every season day =
    let weekday = weekday_of_day season day in
    agree_below_at (λ k. eqb ((127 / 2 ^ k) % 2) 1) (λ _. true) 7 (weekday_on season day - 1) refl (omega (arith, weekday))

-- the day before the next season begins is a Saturday
pub saturday_before : (season : Term) (n : ℤ) → n +ℤ pos 1 ≡ number_after season → weekday_number n ≡ 5
saturday_before season n e =
    let sunday = is_sunday (pos (year_after season.half (first_year season))) (month_after season.half) in
    let step = weekday_number-add n (number_after season) 1 (sym e) in
    let bound = weekday_number_bound n in
    omega (arith, step, sunday, bound)

follows : (half : Half) (y : ℕ) → last_sunday_number (pos (2000 + year_after half y)) (first_month (half_after half)) ≡ last_sunday_number (pos (year_after half (2000 + y))) (month_after half)
follows Summer y = refl
follows Winter y = let same : 2000 + (y + 1) ≡ 2000 + y + 1 = omega arith in ap (λ (n : ℕ). last_sunday_number (pos n) 3) same

-- the season that follows begins where this one ends
pub season_after-first : (season : Term) → first_number (season_after season) ≡ number_after season
season_after-first season = follows season.half season.year
