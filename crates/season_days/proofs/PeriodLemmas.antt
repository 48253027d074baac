-- The days of a period as the loop that lists them finds them.
use Rattle.std.proofs.Common.{◌≡◌, ℕ, zero, suc, ◌+◌, ◌-◌, ◌<◌, ◌≤◌, inl, inr, refl, sym, ap, ◌∙◌, arith, subst}
use Rattle.std.proofs.Common.{Bool, true, false, List, [], ◌∷◌, ◌++◌, map, length, get_or, append_assoc, Some}
use Rattle.std.specs.Prelude.{Contains, All, slice_get}
use Rattle.std.specs.List.{filter}
use Rattle.std.specs.List.Sorted.{IsStrictlyIncreasing}
use Rattle.std.proofs.lemmas.Bool.{cases_eq, cases_Bool}
use Rattle.std.proofs.lemmas.List.{map_push, append-nil}
use Rattle.std.proofs.lemmas.List.Elements.{All-nil, All-cons, All-weaker, All-filter, All-contains, filter_passes, Contains-append_right}
use Rattle.std.proofs.lemmas.List.Kept.{IsStrictlyIncreasing-filter}
use Rattle.season_days.specs.declared.day.Day.{Day}
use Rattle.season_days.specs.Dates.{CivilDate}
use Rattle.season_days.specs.Seasons.{days_from}

one_more_day : (day end : ℕ) → day < end → days_from day (end - day) ≡ day ∷ days_from (day + 1) (end - (day + 1))
unfolding days_from
one_more_day day end lt =
    let n : end - day ≡ suc (end - (day + 1)) = omega arith in
    let next : suc day ≡ day + 1 = omega arith in
    rw n (ap (λ (d : ℕ). day ∷ days_from d (end - (day + 1))) next)

-- a day that is on one of the weekdays
pub day_on : (test : ℕ → Bool) (before after : List Day) (now : Day) (day end : ℕ) (all : List ℕ) → day < end → test day ≡ true → now.0 ≡ day → after ≡ before ++ now ∷ []
    → map (λ (d : Day). d.0) before ++ filter test (days_from day (end - day)) ≡ all → map (λ (d : Day). d.0) after ++ filter test (days_from (day + 1) (end - (day + 1))) ≡ all
day_on test before after now day end all lt on is pushed so_far =
    let step : filter test (days_from day (end - day)) ≡ day ∷ filter test (days_from (day + 1) (end - (day + 1))) = rw (one_more_day day end lt, on) refl in
    let moved : map (λ (d : Day). d.0) after ≡ map (λ (d : Day). d.0) before ++ day ∷ [] = rw pushed (map_push (λ (d : Day). d.0) before now ∙ ap (λ (d : ℕ). map (λ (e : Day). e.0) before ++ d ∷ []) is) in
    rw moved (append_assoc (map (λ (d : Day). d.0) before) (day ∷ []) (filter test (days_from (day + 1) (end - (day + 1)))) ∙ ap (λ (l : List ℕ). map (λ (d : Day). d.0) before ++ l) (sym step) ∙ so_far)

-- and one that isn't
pub day_off : (test : ℕ → Bool) (before after : List Day) (day end : ℕ) (all : List ℕ) → day < end → test day ≡ false → after ≡ before
    → map (λ (d : Day). d.0) before ++ filter test (days_from day (end - day)) ≡ all → map (λ (d : Day). d.0) after ++ filter test (days_from (day + 1) (end - (day + 1))) ≡ all
day_off test before after day end all lt off same so_far =
    let step : filter test (days_from day (end - day)) ≡ filter test (days_from (day + 1) (end - (day + 1))) = rw (one_more_day day end lt, off) refl in
    rw same (ap (λ (l : List ℕ). map (λ (d : Day). d.0) before ++ l) (sym step) ∙ so_far)

-- no days are left
pub no_more_days : (test : ℕ → Bool) (before : List Day) (day end : ℕ) (all : List ℕ) → end ≤ day → map (λ (d : Day). d.0) before ++ filter test (days_from day (end - day)) ≡ all → map (λ (d : Day). d.0) before ≡ all
unfolding days_from
no_more_days test before day end all le so_far =
    let n : end - day ≡ 0 = omega arith in
    let e : map (λ (d : Day). d.0) before ++ filter test (days_from day (end - day)) ≡ map (λ (d : Day). d.0) before = rw n (append-nil _) in
    sym e ∙ so_far

-- nothing was kept of nothing
pub nothing_kept : (kept : List Day) (all : List ℕ) → length kept ≡ 0 → map (λ (d : Day). d.0) kept ≡ all → all ≡ []
nothing_kept [] all e same = sym same
nothing_kept (day ∷ kept) all e same = absurd (omega arith)

pub something_kept : (kept : List Day) (all : List ℕ) → (length kept ≡ 0 → ⊥) → map (λ (d : Day). d.0) kept ≡ all → all ≡ [] → ⊥
something_kept [] all some same e = some refl
something_kept (day ∷ kept) all some same e = let none : map (λ (d : Day). d.0) (day ∷ kept) ≡ [] = same ∙ e in absurd cc

-- ---- the days of a list of consecutive ones

pub days_in : (first n : ℕ) → All (λ d. (first ≤ d) × (d < first + n)) (days_from first n)
unfolding days_from
days_in first zero = All-nil _
days_in first (suc n) =
    All-cons (λ d. (first ≤ d) × (d < first + suc n)) first (days_from (suc first) n) (omega arith, omega arith)
    (All-weaker (λ d. (suc first ≤ d) × (d < suc first + n)) (λ d. (first ≤ d) × (d < first + suc n)) (λ d h. (omega (arith, h), omega (arith, h))) (days_from (suc first) n) (days_in (suc first) n))

pub length-days_from : (first n : ℕ) → length (days_from first n) ≡ n
unfolding days_from
length-days_from first zero = refl
length-days_from first (suc n) = omega (arith, length-days_from (suc first) n)

pub get_or-days_from : (first n k : ℕ) → k < n → get_or (days_from first n) k 0 ≡ first + k
unfolding days_from
get_or-days_from first zero k lt = absurd (omega arith)
get_or-days_from first (suc n) zero lt = omega arith
get_or-days_from first (suc n) (suc k) lt = omega (arith, get_or-days_from (suc first) n k (omega arith))

rising_days : (first n : ℕ) → IsStrictlyIncreasing (days_from first n)
rising_days first n = λ k lt.
    let long = length-days_from first n in
    omega (arith, get_or-days_from first n k (omega (arith, long, lt)), get_or-days_from first n (k + 1) (omega (arith, long, lt)))

pub rising_kept : (test : ℕ → Bool) (first n : ℕ) → IsStrictlyIncreasing (filter test (days_from first n))
rising_kept test first n = IsStrictlyIncreasing-filter test (days_from first n) (rising_days first n)

-- the values of a function at the days, in a list
pub slice_get-map_days : (f : ℕ → CivilDate) (first n k : ℕ) → k < n → slice_get (map f (days_from first n)) k ≡ Some (f (first + k))
unfolding days_from
slice_get-map_days f first zero k lt = absurd (omega arith)
slice_get-map_days f first (suc n) zero lt = let e : first ≡ first + 0 = omega arith in ap (λ (d : ℕ). Some (f d)) e
slice_get-map_days f first (suc n) (suc k) lt =
    let e : suc first + k ≡ first + suc k = omega arith in
    slice_get-map_days f (suc first) n k (omega arith) ∙ ap (λ (d : ℕ). Some (f d)) e

pub length-map_days : (f : ℕ → CivilDate) (first n : ℕ) → length (map f (days_from first n)) ≡ n
unfolding days_from
length-map_days f first zero = refl
length-map_days f first (suc n) = omega (arith, length-map_days f (suc first) n)

-- a day of the list that passes the test is kept
pub kept_in : (test : ℕ → Bool) (first n day : ℕ) → first ≤ day → day < first + n → test day ≡ true → Contains (filter test (days_from first n)) day
unfolding days_from
kept_in test first zero day le lt on = absurd (omega arith)
kept_in test first (suc n) day le lt on =
    elim (cases_eq first day) [
      | inl here ↦
          let e : test first ≡ true = ap test here ∙ on in
          rw e (subst (λ (d : ℕ). Contains (d ∷ filter test (days_from (suc first) n)) day) (sym here) (0, omega arith, refl))
      | inr other ↦
          let rest = kept_in test (suc first) n day (omega (arith, other)) (omega arith) on in
          elim (cases_Bool (test first)) [
            | inl on_first ↦ rw on_first (Contains-append_right (first ∷ []) (filter test (days_from (suc first) n)) day rest)
            | inr off ↦ rw off rest
          ]
    ]

-- and what is kept is such a day
pub in_kept : (test : ℕ → Bool) (first n day : ℕ) → Contains (filter test (days_from first n)) day → (first ≤ day) × (day < first + n) × (test day ≡ true)
in_kept test first n day has =
    let range = All-contains (λ d. (first ≤ d) × (d < first + n)) _ day (All-filter test (λ d. (first ≤ d) × (d < first + n)) (days_from first n) (days_in first n)) has in
    (range.0, range.1, All-contains (λ d. test d ≡ true) _ day (filter_passes test (days_from first n)) has)
