-- A day of the season, from the date that names it and back.
use Rattle.std.proofs.Common.{◌≡◌, ℕ, ℤ, ◌<◌, ◌≤◌, ◌-◌, ◌⊎◌, zero, suc, Bool, true, eqb, List, [], ◌∷◌, ◌++◌, length, length-append, get_or, subst, take, drop, Result, Ok, Err, refl, sym, ap, ◌∙◌, arith, inl, inr, pos}
use Rattle.schedule_text.specs.Days.{IsDays}
use Rattle.schedule_text.specs.Times.{two_digits}
use Rattle.std.specs.Prelude.{IfOk, IfSome, IsSomeAnd, Option, Some, None, ◌≢◌}
use Rattle.std.specs.Result.{result_ok}
use Rattle.std.proofs.lemmas.List.{take_at, drop_at, take-append-drop}
use Rattle.std.proofs.Math.Bool.{◌&&◌}
use Rattle.std.proofs.lemmas.Bool.{and_parts, eqb-true}
use Rattle.std.proofs.lemmas.Int.{ints}
use Rattle.jiff_core.specs.Calendar.{days_in_month}
use Rattle.season_days.specs.Term.{Term}
use Rattle.season_days.specs.Seasons.{NamesDate, IsDayNamed, year_of_month, first_year, dates_of}
use Rattle.season_days.specs.declared.day.Day.{Day}
use Rattle.season_days.specs.declared.day.DayFault.{DayFault}
use Rattle.scr_reader.specs.Parts.{month_names, month_text, IsDayOfMonth, SpellsDay, IsTwoDays, IsPeriod}
use Rattle.scr_reader.specs.Shapes.{NamesPeriod}
use Rattle.season_days.specs.declared.day.Period.{Period}

-- no month has more than 31 days
month_few : (year : ℤ) (month : ℕ) → days_in_month year month ≤ 31
month_few year month = grind arith

pub few_days : (month day : ℕ) → IsDayOfMonth month day → day < 100
few_days month day is = omega (arith, is.day_to, month_few (pos 2000) month)

pub in_range : (season : Term) (month day : ℕ) → NamesDate season month day → (1 ≤ month) × (month ≤ 12) × (day < 100)
in_range season month day named =
    let most = month_few (pos (year_of_month season.half (first_year season) month)) month in
    (omega (arith, ints, named.1.0), omega (arith, ints, named.1.1), omega (arith, ints, named.2.1, most))

pub spelled : (season : Term) (text front back : List ℕ) (month of_month : ℕ) (r : Result Day DayFault) → front ≡ take 2 text → back ≡ drop 2 text → front ≡ two_digits of_month → back ≡ month_text month
    → IfOk r (λ found. IsDayNamed season month of_month found.0) → IfSome (result_ok r) (λ day. SpellsDay season text day.0)
spelled season text front back month of_month (Ok day) f b fe be named =
    (month, of_month, named, sym (take-append-drop 2 text) ∙ rw (← f, ← b, fe, be) refl)
spelled season text front back month of_month (Err e) f b fe be named = tt

pub day_again : (day : ℕ) (r : Result Day DayFault) → r ≡ Ok (record { 0 = day }) → IsSomeAnd (result_ok r) (λ found. found.0 ≡ day)
day_again day r is = rw is refl

pub front_is : (text : List ℕ) (month of_month : ℕ) → text ≡ two_digits of_month ++ month_text month → (take 2 text ≡ two_digits of_month) × (drop 2 text ≡ month_text month)
front_is text month of_month e = (ap (take 2) e ∙ take_at (two_digits of_month) (month_text month) 2 refl, ap (drop 2) e ∙ drop_at (two_digits of_month) (month_text month) 2 refl)

three_each : List (List ℕ) → Bool
three_each [] = true
three_each (text ∷ texts) = eqb (length text) 3 && three_each texts

three_at : (texts : List (List ℕ)) (k : ℕ) → three_each texts ≡ true → k < length texts → length (get_or texts k []) ≡ 3
unfolding three_each
three_at [] k all lt = absurd (omega arith)
three_at (text ∷ texts) zero all lt = eqb-true _ _ (and_parts (eqb (length text) 3) (three_each texts) all).0
three_at (text ∷ texts) (suc k) all lt = three_at texts k (and_parts (eqb (length text) 3) (three_each texts) all).1 (omega arith)

pub day_long : (season : Term) (text : List ℕ) (day : ℕ) → SpellsDay season text day → length text ≡ 5
unfolding three_each
day_long season text day is =
    let range = in_range season is.0 is.1 is.2.0 in
    let month : length (month_text is.0) ≡ 3 = three_at month_names (is.0 - 1) refl (omega (arith, range.0, range.1)) in
    ap length is.3 ∙ omega (arith, length-append (two_digits is.1) (month_text is.0), month)

pub two_days_long : (season : Term) (text : List ℕ) (first last : ℕ) → IsTwoDays season text first last → length text ≡ 10
two_days_long season text first last is =
    omega (arith, ap length is.spelled, length-append is.first_text is.last_text, day_long season is.first_text first is.first_day, day_long season is.last_text last is.last_day)

-- of ten bytes, a period is two dates, and of five it is one
pub by_ten : (season : Term) (text : List ℕ) (first last : ℕ) → length text ≡ 10 → IsPeriod season text first last → IsTwoDays season text first last
by_ten season text first last ten is =
    elim (is.dates) as (λ _. IsTwoDays season text first last) [
      | inl two ↦ two
      | inr one ↦ absurd (omega (arith, ten, day_long season text first one.0))
    ]

pub by_five : (season : Term) (text : List ℕ) (first last : ℕ) → length text ≡ 5 → IsPeriod season text first last → SpellsDay season text first × (last ≡ first)
by_five season text first last five is =
    elim (is.dates) as (λ _. SpellsDay season text first × (last ≡ first)) [
      | inl two ↦ absurd (omega (arith, five, two_days_long season text first last two))
      | inr one ↦ one
    ]

pub five_or_ten : (season : Term) (text : List ℕ) (first last : ℕ) → IsPeriod season text first last → (length text ≡ 5) ⊎ (length text ≡ 10)
five_or_ten season text first last is =
    elim (is.dates) as (λ _. (length text ≡ 5) ⊎ (length text ≡ 10)) [
      | inl two ↦ inr (two_days_long season text first last two)
      | inr one ↦ inl (day_long season text first one.0)
    ]

-- the texts of two dates are the halves
pub halves : (season : Term) (text : List ℕ) (first last : ℕ) (is : IsTwoDays season text first last) → SpellsDay season (take 5 text) first × SpellsDay season (drop 5 text) last
halves season text first last is =
    let long = day_long season is.first_text first is.first_day in
    let front : take 5 text ≡ is.first_text = ap (take 5) is.spelled ∙ take_at is.first_text is.last_text 5 long in
    let back : drop 5 text ≡ is.last_text = ap (drop 5) is.spelled ∙ drop_at is.first_text is.last_text 5 long in
    (subst (λ (t : List ℕ). SpellsDay season t first) (sym front) is.first_day, subst (λ (t : List ℕ). SpellsDay season t last) (sym back) is.last_day)

day_at : ℕ → Day
day_at n = record { 0 = n }

pub names_period : (season : Term) (dates_text days_text : List ℕ) (first last : Day) (r : Option Period) → IsPeriod season dates_text first.0 last.0
    → IfSome r (λ p. (p.first ≡ first) × (p.last ≡ last) × IsDays days_text p.days × (dates_of season p ≢ [])) → IfSome r (NamesPeriod season dates_text days_text)
names_period season dates_text days_text first last None is found = tt
names_period season dates_text days_text first last (Some p) is found = record { named = rw (found.0, found.1) is; days_named = found.2; dated = found.3 }

pub same_day : (a b : Day) → a.0 ≡ b.0 → a ≡ b
unfolding day_at
same_day a b e = ap day_at e
