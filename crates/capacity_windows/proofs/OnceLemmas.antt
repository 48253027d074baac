-- A window, which is at most a day long, holds the movements of a stop on at most one date, since
-- these are a day apart. So only the night quota is used more than once.
use Rattle.std.proofs.Common.{◌≡◌, ℕ, zero, suc, ◌+◌, ◌-◌, ◌<◌, ◌≤◌, ◌&&◌, nat_le, nat_lt, Bool, true, false, cond, List, [], ◌∷◌, map, filter, refl, ◌∙◌, arith, inl, inr, count_by}
use Rattle.std.specs.Prelude.{All, sum_by}
use Rattle.std.proofs.lemmas.Bool.{cases_Bool, leb-true, ltb-true, ltb-false}
use Rattle.std.proofs.lemmas.List.Elements.{All-head, All-tail}
use Rattle.std.proofs.lemmas.List.Sums.{sum_by-cons}
use Rattle.season_days.specs.Seasons.{is_on, days_from, dates_of}
use Rattle.season_days.specs.declared.day.Period.{Period}
use Rattle.season_days.specs.declared.declaration.Kind.{Kind}
use Rattle.season_days.specs.declared.declaration.Rule.{Rule}
use Rattle.capacity_windows.specs.Windows.{Capacity, IsRule, windows_of, start_of, resource_from, resource_load, holds, is_listed, is_of_kind, is_within, absolute_minute, stop_movements, movement_on}
use Rattle.capacity_windows.specs.declared.resource.Resource.TheVariants.{Window}

both_true : (a b : Bool) → (a && b) ≡ true → (a ≡ true) × (b ≡ true)
both_true true true e = (refl, refl)
both_true true false e = cc
both_true false b e = cc

-- each number is above the one before it
abbrev RisesFrom : ℕ → List ℕ → Type 0
RisesFrom low [] = Unit {0}
RisesFrom low (x ∷ xs) = (low ≤ x) × RisesFrom (suc x) xs

lower_start : (low lower : ℕ) (xs : List ℕ) → lower ≤ low → RisesFrom low xs → RisesFrom lower xs
lower_start low lower [] le r = tt
lower_start low lower (x ∷ xs) le r = (omega (arith, r.0), r.1)

kept_rise : (test : ℕ → Bool) (first n : ℕ) → RisesFrom first (filter test (days_from first n))
unfolding days_from
kept_rise test first zero = tt
kept_rise test first (suc n) =
    elim (test first) as (λ b. RisesFrom first (cond b (first ∷ filter test (days_from (suc first) n)) (filter test (days_from (suc first) n)))) [
      | true ↦ (omega arith, kept_rise test (suc first) n)
      | false ↦ lower_start (suc first) first (filter test (days_from (suc first) n)) (omega arith) (kept_rise test (suc first) n)
    ]

module _ (passes : ℕ → Bool) (apart : (x y : ℕ) → x < y → passes x ≡ true → passes y ≡ true → ⊥) where
  -- after one that passes none does
  none_after : (x : ℕ) (xs : List ℕ) → passes x ≡ true → RisesFrom (suc x) xs → count_by passes xs ≡ 0
  none_after x [] e r = refl
  none_after x (y ∷ ys) e r =
      let c = sum_by-cons (λ z. cond (passes z) 1 0) y ys in
      let rest = none_after x ys e (lower_start (suc y) (suc x) ys (omega (arith, r.0)) r.1) in
      elim (cases_Bool (passes y)) [
        | inl here ↦ absurd (apart x y (omega (arith, r.0)) e here)
        | inr off ↦ c ∙ rw (off, rest) refl
      ]

  at_most_one : (low : ℕ) (xs : List ℕ) → RisesFrom low xs → count_by passes xs ≤ 1
  at_most_one low [] r = omega arith
  at_most_one low (x ∷ xs) r =
      let c = sum_by-cons (λ z. cond (passes z) 1 0) x xs in
      elim (cases_Bool (passes x)) [
        | inl here ↦
            let n : cond (passes x) (suc 0) 0 ≡ suc 0 = rw here refl in
            omega (arith, c, n, none_after x xs here r.1)
        | inr off ↦
            let n : cond (passes x) (suc 0) 0 ≡ zero = rw off refl in
            omega (arith, c, n, at_most_one (suc x) xs r.1)
      ]

count_mapped : {X Y : Type 0} (passes : Y → Bool) (f : X → Y) (xs : List X) → count_by passes (map f xs) ≡ count_by (λ x. passes (f x)) xs
count_mapped passes f [] = refl
count_mapped passes f (x ∷ xs) =
    let one = sum_by-cons (λ y. cond (passes y) 1 0) (f x) (map f xs) in
    let other = sum_by-cons (λ y. cond (passes (f y)) 1 0) x xs in
    omega (arith, one, other, count_mapped passes f xs)

module _ (c : Capacity) (kind : Kind) (minute later : ℕ) (period : Period) where
  within : (rule : Rule) (day start date : ℕ) → holds c (Window rule day start) (movement_on kind minute later date) ≡ true → (absolute_minute day (start_of c.step rule start) ≤ absolute_minute (date + later) minute) × (absolute_minute (date + later) minute < absolute_minute day (start_of c.step rule start) + rule.length)
  within rule day start date e =
      let m = movement_on kind minute later date in
      let begin = absolute_minute day (start_of c.step rule start) in
      let w : Bool = is_within begin rule.length (absolute_minute (date + later) minute) in
      let one = both_true (is_listed c m) (is_on c.season rule.days day && (is_of_kind rule.kind kind && w)) e in
      let two = both_true (is_on c.season rule.days day) (is_of_kind rule.kind kind && w) one.1 in
      let three = both_true (is_of_kind rule.kind kind) w two.1 in
      let four = both_true (nat_le begin (absolute_minute (date + later) minute)) (nat_lt (absolute_minute (date + later) minute) (begin + rule.length)) three.1 in
      (leb-true begin (absolute_minute (date + later) minute) four.0, ltb-true (absolute_minute (date + later) minute) (begin + rule.length) four.1)

  window_once : (rule : Rule) (day start : ℕ) → rule.length ≤ 1440 → resource_load c (Window rule day start) (stop_movements c kind minute later period) ≤ 1
  window_once rule day start short =
      let passes : ℕ → Bool = λ date. holds c (Window rule day start) (movement_on kind minute later date) in
      let apart : (x y : ℕ) → x < y → passes x ≡ true → passes y ≡ true → ⊥ = λ x y lt ex ey. omega (arith, within rule day start x ex, within rule day start y ey) in
      let e = count_mapped (holds c (Window rule day start)) (movement_on kind minute later) (dates_of c.season period) in
      omega (arith, e, at_most_one passes apart period.first.0 (dates_of c.season period) (kept_rise (is_on c.season period.days) period.first.0 _))

  -- each window, so each number before the quota's
  pub once : (rules : List Rule) (r : ℕ) → All IsRule rules → r < sum_by (windows_of c) rules → resource_load c (resource_from c rules r) (stop_movements c kind minute later period) ≤ 1
  once [] r are lt = absurd (omega arith)
  once (rule ∷ rules) r are lt =
      let total = sum_by-cons (windows_of c) rule rules in
      elim (cases_Bool (nat_lt r (windows_of c rule))) [
        | inl here ↦ let head = All-head IsRule rule rules are in rw here (window_once rule _ _ head.short)
        | inr later_one ↦ rw later_one (once rules (r - windows_of c rule) (All-tail IsRule rule rules are) (omega (arith, total, lt, ltb-false r (windows_of c rule) later_one)))
      ]
