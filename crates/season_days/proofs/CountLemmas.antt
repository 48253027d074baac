-- The dates of a period, counted: day by day, and by whole weeks, each of which has as many as the
-- first one.
use Rattle.std.proofs.Common.{◌≡◌, ℕ, zero, suc, ◌+◌, ◌-◌, ◌*◌, ◌/◌, ◌<◌, ◌≤◌, Bool, true, false, cond, List, [], ◌∷◌, length, refl, sym, ap, ◌∙◌, arith, inl, inr}
use Rattle.std.proofs.lemmas.Bool.{cases_Bool}
use Rattle.std.specs.List.{filter}
use Rattle.std.proofs.Math.Nat.{suc-mul}
use Rattle.std.proofs.lemmas.List.Sums.{length-filter, count_by-le-length}
use Rattle.season_days.specs.Term.{Term}
use Rattle.season_days.specs.Seasons.{is_on, days_from, date_count, dates_of}
use Rattle.season_days.specs.declared.day.Period.{Period}
use Rattle.season_days.specs.declared.season.TheConstants.{MOST_DATES}
use Rattle.season_days.proofs.SeasonLemmas.{date_count_small, is_on-week}
use Rattle.season_days.proofs.PeriodLemmas.{length-days_from}

-- ---- day by day

day_more : (day end : ℕ) → day < end → days_from day (end - day) ≡ day ∷ days_from (day + 1) (end - (day + 1))
unfolding days_from
day_more day end lt =
    let n : end - day ≡ suc (end - (day + 1)) = omega arith in
    let next : suc day ≡ day + 1 = omega arith in
    rw n (ap (λ (d : ℕ). day ∷ days_from d (end - (day + 1))) next)

-- a day that is a date, one that is none, and no day
pub date_on : (test : ℕ → Bool) (day end : ℕ) → day < end → test day ≡ true → filter test (days_from day (end - day)) ≡ day ∷ filter test (days_from (day + 1) (end - (day + 1)))
date_on test day end lt on = rw (day_more day end lt, on) refl

pub date_off : (test : ℕ → Bool) (day end : ℕ) → day < end → test day ≡ false → filter test (days_from day (end - day)) ≡ filter test (days_from (day + 1) (end - (day + 1)))
date_off test day end lt off = rw (day_more day end lt, off) refl

pub date_end : (test : ℕ → Bool) (day end : ℕ) → end ≤ day → filter test (days_from day (end - day)) ≡ []
unfolding days_from
date_end test day end le = let n : end - day ≡ 0 = omega arith in rw n refl

-- counted
pub count_on : (test : ℕ → Bool) (count day end all : ℕ) → day < end → test day ≡ true → count + length (filter test (days_from day (end - day))) ≡ all → count + 1 + length (filter test (days_from (day + 1) (end - (day + 1)))) ≡ all
count_on test count day end all lt on so_far =
    let step : length (filter test (days_from day (end - day))) ≡ suc (length (filter test (days_from (day + 1) (end - (day + 1))))) = ap (λ (xs : List ℕ). length xs) (date_on test day end lt on) in
    omega (arith, step, so_far)

pub count_off : (test : ℕ → Bool) (count day end all : ℕ) → day < end → test day ≡ false → count + length (filter test (days_from day (end - day))) ≡ all → count + length (filter test (days_from (day + 1) (end - (day + 1)))) ≡ all
count_off test count day end all lt off so_far =
    let step : length (filter test (days_from day (end - day))) ≡ length (filter test (days_from (day + 1) (end - (day + 1)))) = ap (λ (xs : List ℕ). length xs) (date_off test day end lt off) in
    omega (arith, step, so_far)

pub count_end : (test : ℕ → Bool) (count day end all : ℕ) → end ≤ day → count + length (filter test (days_from day (end - day))) ≡ all → count ≡ all
count_end test count day end all le so_far =
    let step : length (filter test (days_from day (end - day))) ≡ 0 = ap (λ (xs : List ℕ). length xs) (date_end test day end le) in
    omega (arith, step, so_far)

-- ---- by whole weeks

-- a day that passes a test counts as 1
abbrev one_if : Bool → ℕ
one_if b = cond b 1 0

-- how many of some days pass a test
abbrev passing : (ℕ → Bool) → ℕ → ℕ → ℕ
passing test first n = length (filter test (days_from first n))

passing_none : (test : ℕ → Bool) (first : ℕ) → passing test first 0 ≡ 0
unfolding days_from
passing_none test first = refl

passing_more : (test : ℕ → Bool) (first n : ℕ) → passing test first (suc n) ≡ one_if (test first) + passing test (suc first) n
unfolding days_from
passing_more test first n =
    elim (cases_Bool (test first)) [
      | inl on ↦ rw on (omega arith)
      | inr off ↦ rw off (omega arith)
    ]

-- in two parts
passing_parts : (test : ℕ → Bool) (first m n : ℕ) → passing test first (m + n) ≡ passing test first m + passing test (first + m) n
passing_parts test first zero n =
    let here : first + 0 ≡ first = omega arith in
    let all : 0 + n ≡ n = omega arith in
    let none = passing_none test first in
    rw (here, all) (omega (arith, none))
passing_parts test first (suc m) n =
    let long : suc m + n ≡ suc (m + n) = omega arith in
    let there : first + suc m ≡ suc first + m = omega arith in
    let whole = passing_more test first (m + n) in
    let front = passing_more test first m in
    let rest = passing_parts test (suc first) m n in
    rw (long, there) (omega (arith, whole, front, rest))

-- days a week later
passing_later : (test : ℕ → Bool) → ((d : ℕ) → test (d + 7) ≡ test d) → (first n : ℕ) → passing test (first + 7) n ≡ passing test first n
passing_later test same first zero = passing_none test (first + 7) ∙ sym (passing_none test first)
passing_later test same first (suc n) =
    let next : suc (first + 7) ≡ suc first + 7 = omega arith in
    let here : one_if (test (first + 7)) ≡ one_if (test first) = ap one_if (same first) in
    let later = passing_more test (first + 7) n in
    let now = passing_more test first n in
    let rest : passing test (suc (first + 7)) n ≡ passing test (suc first) n = rw next (passing_later test same (suc first) n) in
    omega (arith, here, later, now, rest)

-- whole weeks, and then some days
passing_weeks : (test : ℕ → Bool) → ((d : ℕ) → test (d + 7) ≡ test d) → (first weeks n : ℕ) → passing test first (7 * weeks + n) ≡ weeks * passing test first 7 + passing test (first + 7 * weeks) n
passing_weeks test same first zero n =
    let here : first + 7 * 0 ≡ first = omega arith in
    let all : 7 * 0 + n ≡ n = omega arith in
    rw (here, all) (omega arith)
passing_weeks test same first (suc weeks) n =
    let all : 7 * suc weeks + n ≡ 7 + (7 * weeks + n) = omega arith in
    let there : first + 7 * suc weeks ≡ first + 7 + 7 * weeks = omega arith in
    let one = passing_parts test first 7 (7 * weeks + n) in
    let rest = passing_weeks test same (first + 7) weeks n in
    let week : weeks * passing test (first + 7) 7 ≡ weeks * passing test first 7 = ap (λ (k : ℕ). weeks * k) (passing_later test same first 7) in
    let more = suc-mul weeks (passing test first 7) in
    rw (all, there) (omega (arith, one, rest, week, more))

passing_few : (test : ℕ → Bool) (first n : ℕ) → passing test first n ≤ n
passing_few test first n = omega (arith, length-filter test (days_from first n), count_by-le-length test (days_from first n), length-days_from first n)

-- the dates of a period, from those of its first week and those after its last whole week
pub by_weeks : (season : Term) (period : Period) (week rest : ℕ) → period.first.0 ≤ period.last.0 → period.last.0 < date_count season
    → week ≡ length (filter (is_on season period.days) (days_from period.first.0 (period.first.0 + 7 - period.first.0)))
    → rest ≡ length (filter (is_on season period.days) (days_from (period.first.0 + 7 * ((period.last.0 + 1 - period.first.0) / 7)) (period.last.0 + 1 - (period.first.0 + 7 * ((period.last.0 + 1 - period.first.0) / 7)))))
    → ((period.last.0 + 1 - period.first.0) / 7 * week + rest ≡ length (dates_of season period)) × ((period.last.0 + 1 - period.first.0) / 7 * week + rest ≤ MOST_DATES)
by_weeks season period week rest ordered last is_week is_rest =
    let test : ℕ → Bool = is_on season period.days in
    let first = period.first.0 in
    let days = period.last.0 + 1 - first in
    let weeks = days / 7 in
    let left = period.last.0 + 1 - (first + 7 * weeks) in
    let seven : first + 7 - first ≡ 7 = omega arith in
    let one : week ≡ passing test first 7 = is_week ∙ ap (passing test first) seven in
    let product : weeks * week ≡ weeks * passing test first 7 = ap (λ (k : ℕ). weeks * k) one in
    let long : days ≡ 7 * weeks + left = omega arith in
    let all : passing test first days ≡ weeks * passing test first 7 + passing test (first + 7 * weeks) left =
    ap (passing test first) long ∙ passing_weeks test (λ d. is_on-week season period.days (d + 7) d (omega arith)) first weeks left in
    let same : weeks * week + rest ≡ passing test first days = omega (arith, product, all, is_rest) in
    (same, omega (arith, same, passing_few test first days, last, date_count_small season))
