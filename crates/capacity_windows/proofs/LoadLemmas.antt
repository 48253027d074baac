-- The load of the movements on a period's dates, date by date.
use Rattle.std.proofs.Common.{◌≡◌, ℕ, zero, suc, ◌+◌, ◌-◌, ◌<◌, ◌≤◌, Bool, false, ◌&&◌, leb, ltb, eqb, refl, sym, ◌∙◌, ap, arith, inl, inr, min, [], List, ◌∷◌, map}
use Rattle.std.specs.List.{filter, count_by, flat_map}
use Rattle.std.proofs.lemmas.List.Sums.{sum_by-cons}
use Rattle.std.proofs.lemmas.Bool.{lt-leb, eq-eqb, ne_eqb, cases_lt, cases_eq, cases_Bool, and_left}
use Rattle.std.proofs.lemmas.Bool.Decides.{nat_tests}
use Rattle.season_days.specs.Seasons.{days_from, is_on, date_count, dates_of}
use Rattle.season_days.specs.Term.{Term}
use Rattle.season_days.specs.declared.day.Period.{Period}
use Rattle.finite_sums.specs.Sums.{count_below}
use Rattle.capacity_windows.specs.Bands.{is_date}
use Rattle.finite_sums.proofs.SumLemmas.{count_below-same, count_below-none}
use Rattle.capacity_windows.proofs.CountLemmas.{one_if, count_below-parts}

-- one number
count_below-one : (n a : ℕ) (h : ℕ → Bool) → a < n → count_below n (λ x. eqb x a && h x) ≡ one_if (h a)
count_below-one zero a h lt = absurd (omega arith)
count_below-one (suc n) a h lt =
    elim (cases_eq n a) [
      | inl is ↦
          let before : count_below n (λ x. eqb x a && h x) ≡ 0 = count_below-none n (λ x. eqb x a && h x) (λ x l. and_left (eqb x a) (h x) (ne_eqb x a (omega arith))) in
          let last : one_if (eqb n a && h n) ≡ one_if (h a) = rw (eq-eqb n a is) (ap (λ (k : ℕ). one_if (h k)) is) in
          omega (arith, before, last)
      | inr other ↦
          let before = count_below-one n a h (omega arith) in
          let last : one_if (eqb n a && h n) ≡ 0 = rw (ne_eqb n a other) refl in
          omega (arith, before, last)
    ]

-- the days from one on, and those tests that a day passes
abbrev pub day_test : ℕ → ℕ → (ℕ → Bool) → ℕ → Bool
day_test first end h x = leb first x && (ltb x end && h x)

day_parts : (a e x : ℕ) (p : Bool) → a < e → one_if (leb a x && (ltb x e && p)) ≡ one_if (eqb x a && p) + one_if (leb (suc a) x && (ltb x e && p))
day_parts a e x p lt = grind (arith, nat_tests)

first_day : (n a e : ℕ) (h : ℕ → Bool) → a < e → e ≤ n → count_below n (day_test a e h) ≡ one_if (h a) + count_below n (day_test (suc a) e h)
first_day n a e h lt le =
    let parts = count_below-parts n (day_test a e h) (λ x. eqb x a && h x) (day_test (suc a) e h) (λ x _. day_parts a e x (h x) lt) in
    omega (arith, parts, count_below-one n a h (omega arith))

day_none : (first end x : ℕ) (p : Bool) → end ≤ first → leb first x && (ltb x end && p) ≡ false
day_none first end x p le = grind (arith, nat_tests)

-- a filter of one more
kept : {X : Type 0} (on : ℕ → Bool) (make : ℕ → X) (p : X → Bool) (first : ℕ) (xs : List ℕ) → count_by p (map make (filter on (first ∷ xs))) ≡ one_if (on first && p (make first)) + count_by p (map make (filter on xs))
kept on make p first xs =
    elim (cases_Bool (on first)) [
      | inl on_first ↦ rw on_first (sum_by-cons (λ x. one_if (p x)) (make first) (map make (filter on xs)))
      | inr off_first ↦ rw off_first (omega arith)
    ]

-- a list of days that pass a test, each made into an item, and the items counted
pub count_days : {X : Type 0} (on : ℕ → Bool) (make : ℕ → X) (p : X → Bool) (n first days end : ℕ) → end ≡ first + days → end ≤ n
    → count_by p (map make (filter on (days_from first days))) ≡ count_below n (day_test first end (λ x. on x && p (make x)))
unfolding days_from
count_days on make p n first zero end is le = sym (count_below-none n (day_test first end (λ x. on x && p (make x))) (λ x _. day_none first end x (on x && p (make x)) (omega arith)))
count_days on make p n first (suc days) end is le =
    let rest = count_days on make p n (suc first) days end (omega arith) le in
    let now = first_day n first end (λ x. on x && p (make x)) (omega arith) le in
    omega (arith, kept on make p first (days_from (suc first) days), rest, now)

date_test : (first last x : ℕ) (on p : Bool) → leb first x && (ltb x (first + (last + 1 - first)) && (on && p)) ≡ (leb first x && (leb x last && on)) && p
date_test first last x on p = grind (arith, nat_tests)

date_none : (first last x : ℕ) (on p : Bool) → last < first → (leb first x && (leb x last && on)) && p ≡ false
date_none first last x on p none = grind (arith, nat_tests)

no_days : {X : Type 0} (on : ℕ → Bool) (make : ℕ → X) (p : X → Bool) (first : ℕ) → count_by p (map make (filter on (days_from first 0))) ≡ 0
unfolding days_from
no_days on make p first = refl

-- the movements on the dates of a period, date by date
pub count_dates : {X : Type 0} (season : Term) (period : Period) (make : ℕ → X) (p : X → Bool) → period.last.0 < date_count season
    → count_by p (map make (dates_of season period)) ≡ count_below (date_count season) (λ x. is_date season period x && p (make x))
count_dates season period make p within =
    let n = date_count season in
    let first = period.first.0 in
    let last = period.last.0 in
    elim (cases_lt last first) [
      | inl none ↦
          let days : last + 1 - first ≡ 0 = omega arith in
          ap (λ (k : ℕ). count_by p (map make (filter (is_on season period.days) (days_from first k)))) days
          ∙ no_days (is_on season period.days) make p first
          ∙ sym (count_below-none n (λ x. is_date season period x && p (make x)) (λ x _. date_none first last x (is_on season period.days x) (p (make x)) none))
      | inr some ↦
          count_days (is_on season period.days) make p n first (last + 1 - first) (first + (last + 1 - first)) refl (omega arith)
          ∙ count_below-same n (day_test first (first + (last + 1 - first)) (λ x. is_on season period.days x && p (make x))) (λ x. is_date season period x && p (make x)) (λ x _. date_test first last x (is_on season period.days x) (p (make x)))
    ]

-- where only those below an end pass
pub count_below-front : (n end : ℕ) (p : ℕ → Bool) → ((i : ℕ) → end ≤ i → p i ≡ false) → count_below (n + end) p ≡ count_below end p
count_below-front zero end p h = ap (λ (k : ℕ). count_below k p) (omega arith)
count_below-front (suc n) end p h =
    let next : suc n + end ≡ suc (n + end) = omega arith in
    ap (λ (k : ℕ). count_below k p) next ∙ omega (arith, count_below-front n end p h, ap one_if (h (n + end) (omega arith)))

-- the dates that count on which a movement is listed
abbrev pub listed_test : Term → Period → ℕ → ℕ → Bool
listed_test season period later x = is_date season period x && ltb (x + later) (date_count season)

early_date : (a b x y n : ℕ) (on : Bool) → x < a → (leb a x && (leb x b && on)) && ltb y n ≡ false
early_date a b x y n on lt = rw (lt-leb a x lt) refl

late_date : (a b x y n : ℕ) (on : Bool) → (x ≤ b → n ≤ y) → (leb a x && (leb x b && on)) && ltb y n ≡ false
late_date a b x y n on h = grind (arith, nat_tests)

pub listed_none : (season : Term) (period : Period) (later first : ℕ) → first ≤ period.first.0 → count_below first (listed_test season period later) ≡ 0
listed_none season period later first le = count_below-none first (listed_test season period later) (λ x l. early_date period.first.0 period.last.0 x (x + later) (date_count season) (is_on season period.days x) (omega arith))

pub listed_all : (season : Term) (period : Period) (later end day : ℕ) → period.last.0 < date_count season → end ≡ min (period.last.0 + 1) (date_count season - later) → end ≤ day → count_below day (listed_test season period later) ≡ count_below (date_count season) (listed_test season period later)
listed_all season period later end day within is from =
    let n = date_count season in
    let test = listed_test season period later in
    let past : (x : ℕ) → end ≤ x → test x ≡ false = λ x l. late_date period.first.0 period.last.0 x (x + later) n (is_on season period.days x) (λ to. omega arith) in
    let here : day - end + end ≡ day = omega arith in
    let whole : n - end + end ≡ n = omega arith in
    sym (ap (λ (k : ℕ). count_below k test) here) ∙ count_below-front (day - end) end test past ∙ sym (count_below-front (n - end) end test past) ∙ ap (λ (k : ℕ). count_below k test) whole

-- a list of two movements a date holds what the two lists of one movement a date hold together
pub count_by-two : {X Y : Type 0} (p : Y → Bool) (one two : X → Y) (xs : List X) → count_by p (flat_map (λ x. one x ∷ two x ∷ []) xs) ≡ count_by p (map one xs) + count_by p (map two xs)
count_by-two p one two [] = refl
count_by-two p one two (x ∷ xs) =
    omega (
      arith,
      sum_by-cons (λ y. one_if (p y)) (one x) (two x ∷ flat_map (λ z. one z ∷ two z ∷ []) xs),
      sum_by-cons (λ y. one_if (p y)) (two x) (flat_map (λ z. one z ∷ two z ∷ []) xs),
      sum_by-cons (λ y. one_if (p y)) (one x) (map one xs),
      sum_by-cons (λ y. one_if (p y)) (two x) (map two xs),
      count_by-two p one two xs,
    )
