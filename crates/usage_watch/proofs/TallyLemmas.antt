-- The dates of a series, counted day by day.
use Rattle.std.proofs.Common.{◌≡◌, ℕ, ◌+◌, ◌-◌, ◌<◌, ◌≤◌, ◌&&◌, Bool, true, false, cond, List, [], ◌∷◌, length, refl, ap, ◌∙◌, arith}
use Rattle.std.specs.List.{filter}
use Rattle.season_days.specs.Seasons.{days_from}

module _ (test weekday operated : ℕ → Bool) where
  -- the dates from a day on and before an end, those on the weekday, and those that were operated
  abbrev left : ℕ → ℕ → List ℕ
  left day end = filter test (days_from day (end - day))

  abbrev pub dates_left : ℕ → ℕ → ℕ
  dates_left day end = length (filter weekday (left day end))

  abbrev pub operated_left : ℕ → ℕ → ℕ
  operated_left day end = length (filter operated (filter weekday (left day end)))

  abbrev Passes : Type 0
  Passes = (t : ℕ → Bool) (day end : ℕ) → day < end → t day ≡ true → filter t (days_from day (end - day)) ≡ day ∷ filter t (days_from (day + 1) (end - (day + 1)))

  abbrev Fails : Type 0
  Fails = (t : ℕ → Bool) (day end : ℕ) → day < end → t day ≡ false → filter t (days_from day (end - day)) ≡ filter t (days_from (day + 1) (end - (day + 1)))

  abbrev Ends : Type 0
  Ends = (t : ℕ → Bool) (day end : ℕ) → end ≤ day → filter t (days_from day (end - day)) ≡ []

  left_more : Passes → Fails → (day end : ℕ) → day < end → left day end ≡ cond (test day) (day ∷ left (day + 1) end) (left (day + 1) end)
  left_more passes fails day end lt =
      elim (test day) as (λ b. test day ≡ b → left day end ≡ cond b (day ∷ left (day + 1) end) (left (day + 1) end)) [
        | true ↦ λ e. passes test day end lt e
        | false ↦ λ e. fails test day end lt e
      ] refl

  count_dates : (d w : Bool) (m : ℕ) (day : ℕ) (rest : List ℕ) → weekday day ≡ w → m ≡ length (filter weekday rest) → length (filter weekday (cond d (day ∷ rest) rest)) ≡ cond (d && w) 1 0 + m
  count_dates true true m day rest e f = rw (e, f) (omega arith)
  count_dates true false m day rest e f = rw e (omega (arith, f))
  count_dates false w m day rest e f = omega (arith, f)

  count_operated : (d w o : Bool) (m : ℕ) (day : ℕ) (rest : List ℕ) → weekday day ≡ w → operated day ≡ o → m ≡ length (filter operated (filter weekday rest)) → length (filter operated (filter weekday (cond d (day ∷ rest) rest))) ≡ cond ((d && w) && o) 1 0 + m
  count_operated true true true m day rest e g f = rw (e, g, f) (omega arith)
  count_operated true true false m day rest e g f = rw (e, g) (omega (arith, f))
  count_operated true false o m day rest e g f = rw e (omega (arith, f))
  count_operated false w o m day rest e g f = omega (arith, f)

  pub dates_more : Passes → Fails → (count day end all : ℕ) → day < end → count + dates_left day end ≡ all → (count + cond (test day && weekday day) 1 0) + dates_left (day + 1) end ≡ all
  dates_more passes fails count day end all lt so_far =
      let step : dates_left day end ≡ cond (test day && weekday day) 1 0 + dates_left (day + 1) end =
      ap (λ (xs : List ℕ). length (filter weekday xs)) (left_more passes fails day end lt)
      ∙ count_dates (test day) (weekday day) (dates_left (day + 1) end) day (left (day + 1) end) refl refl in
      omega (arith, step, so_far)

  pub operated_more : Passes → Fails → (count day end all : ℕ) → day < end → count + operated_left day end ≡ all → (count + cond ((test day && weekday day) && operated day) 1 0) + operated_left (day + 1) end ≡ all
  operated_more passes fails count day end all lt so_far =
      let step : operated_left day end ≡ cond ((test day && weekday day) && operated day) 1 0 + operated_left (day + 1) end =
      ap (λ (xs : List ℕ). length (filter operated (filter weekday xs))) (left_more passes fails day end lt)
      ∙ count_operated (test day) (weekday day) (operated day) (operated_left (day + 1) end) day (left (day + 1) end) refl refl refl in
      omega (arith, step, so_far)

  pub dates_end : Ends → (count day end all : ℕ) → end ≤ day → count + dates_left day end ≡ all → count ≡ all
  dates_end ends count day end all le so_far =
      let none : dates_left day end ≡ 0 = ap (λ (xs : List ℕ). length (filter weekday xs)) (ends test day end le) in
      omega (arith, none, so_far)

  pub operated_end : Ends → (count day end all : ℕ) → end ≤ day → count + operated_left day end ≡ all → count ≡ all
  operated_end ends count day end all le so_far =
      let none : operated_left day end ≡ 0 = ap (λ (xs : List ℕ). length (filter operated (filter weekday xs))) (ends test day end le) in
      omega (arith, none, so_far)

pub counted_few : (b : Bool) (count day : ℕ) → count ≤ day → count + cond b 1 0 ≤ day + 1
counted_few true count day le = omega (arith, le)
counted_few false count day le = omega (arith, le)

pub counted_to : (b : Bool) (count day end : ℕ) → count ≤ day → day < end → count + cond b 1 0 ≤ end
counted_to true count day end le lt = omega (arith, le, lt)
counted_to false count day end le lt = omega (arith, le, lt)

pub counted_within : (b o : Bool) (operated dates : ℕ) → operated ≤ dates → operated + cond (b && o) 1 0 ≤ dates + cond b 1 0
counted_within true true operated dates le = omega (arith, le)
counted_within true false operated dates le = omega (arith, le)
counted_within false o operated dates le = omega (arith, le)
