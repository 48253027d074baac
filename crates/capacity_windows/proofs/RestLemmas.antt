-- Rule by rule, and then the night quota.
use Rattle.std.proofs.Common.{◌≡◌, ℕ, ◌+◌, ◌-◌, ◌*◌, ◌<◌, ◌≤◌, Bool, true, false, ◌&&◌, leb, ltb, eqb, refl, sym, ◌∙◌, ap, arith, inl, inr, List, [], ◌∷◌, Option, Some, None, length, drop, get_or, add-one, drop-cons}
use Rattle.std.specs.Prelude.{if◌then◌else◌}
use Rattle.std.specs.List.{count_by}
use Rattle.std.proofs.Math.ListN.{drop_of_length-le}
use Rattle.std.proofs.lemmas.List.Sums.{sum_by-cons}
use Rattle.std.proofs.lemmas.Bool.{lt-ltb, le-ltb, le-leb, lt-leb, eq-eqb, ne_eqb, cases_lt, cases_eq, and_right}
use Rattle.std.proofs.lemmas.Bool.Decides.{nat_tests}
use Rattle.choice_problem.specs.declared.strips.Strip.{Strip}
use Rattle.choice_problem.specs.Strips.{is_in_run, strip_uses}
use Rattle.season_days.specs.Seasons.{date_count}
use Rattle.season_days.specs.declared.day.Period.{Period}
use Rattle.season_days.specs.declared.declaration.Kind.{Kind}
use Rattle.season_days.specs.declared.declaration.Rule.{Rule}
use Rattle.season_days.specs.declared.declaration.Night.{Night}
use Rattle.capacity_windows.specs.declared.movement.Movement.{Movement}
use Rattle.capacity_windows.specs.declared.resource.Resource.TheVariants.{Quota, Nothing}
use Rattle.capacity_windows.specs.Windows.{Capacity, windows_of, holds, window_load, resource_load, resource_from, quota_from, is_at_night, movement_on, stop_movements}
use Rattle.capacity_windows.specs.Bands.{is_date, listed_dates, rule_load, rest_load}
use Rattle.finite_sums.proofs.SumLemmas.{count_below-same, count_below-none, count_below-all}
use Rattle.capacity_windows.proofs.CountLemmas.{one_if}
use Rattle.capacity_windows.proofs.LoadLemmas.{count_dates}

-- the rest without its first rule
pub rest_more : (c : Capacity) (rule : Rule) (rules : List Rule) (first : ℕ) (list : List Movement) (r : ℕ) → rest_load c (rule ∷ rules) first list r ≡ rule_load c rule first list r + rest_load c rules (first + windows_of c rule) list r
rest_more c rule rules first list r =
    let size = windows_of c rule in
    elim (cases_lt r first) [
      | inl early ↦ rw (lt-leb first r early, lt-leb (first + size) r (omega arith)) refl
      | inr from ↦
          elim (cases_lt (r - first) size) [
            | inl inside ↦ rw (le-leb first r from, lt-ltb (r - first) size inside, lt-leb (first + size) r (omega arith)) (omega arith)
            | inr late ↦
                let back : r - first - size ≡ r - (first + size) = omega arith in
                rw (le-leb first r from, le-ltb (r - first) size late, le-leb (first + size) r (omega arith)) (let same = ap (λ (k : ℕ). resource_load c (resource_from c rules k) list) back in omega (arith, same))
          ]
    ]

pub count_by-none : {X : Type 0} (p : X → Bool) (xs : List X) → ((x : X) → p x ≡ false) → count_by p xs ≡ 0
count_by-none p [] h = refl
count_by-none p (x ∷ xs) h = omega (arith, sum_by-cons (λ y. one_if (p y)) x xs, ap one_if (h x), count_by-none p xs h)

-- no quota
pub night_none : (c : Capacity) (first : ℕ) (list : List Movement) (r : ℕ) → c.night ≡ None → rest_load c [] first list r ≡ 0
night_none c first list r is =
    elim (cases_lt r first) [
      | inl early ↦ rw (lt-leb first r early) refl
      | inr from ↦
          rw (le-leb first r from) (ap (λ (n : Option Night). resource_load c (quota_from n (r - first)) list) is ∙ count_by-none (holds c Nothing) list (λ _. refl))
    ]

-- the load on the quota, number by number
night_load : (c : Capacity) (night : Night) (first : ℕ) (list : List Movement) (r : ℕ) → c.night ≡ Some night → rest_load c [] first list r ≡ (if eqb r first then resource_load c (Quota night) list else 0)
night_load c night first list r is =
    elim (cases_lt r first) [
      | inl early ↦ rw (lt-leb first r early, ne_eqb r first (omega arith)) refl
      | inr from ↦
          rw (le-leb first r from)
          (ap (λ (n : Option Night). resource_load c (quota_from n (r - first)) list) is
          ∙ elim (cases_eq r first) [
            | inl same ↦ rw (eq-eqb (r - first) 0 (omega arith), eq-eqb r first same) refl
            | inr past ↦ rw (ne_eqb (r - first) 0 (omega arith), ne_eqb r first past) (count_by-none (holds c Nothing) list (λ _. refl))
          ])
    ]

-- a movement in the day is not counted
pub night_off : (c : Capacity) (night : Night) (first : ℕ) (kind : Kind) (minute later : ℕ) (period : Period) (r : ℕ) → c.night ≡ Some night → is_at_night night minute ≡ false → period.last.0 < date_count c.season
    → rest_load c [] first (stop_movements c kind minute later period) r ≡ 0
night_off c night first kind minute later period r is off within =
    let list = stop_movements c kind minute later period in
    let days = date_count c.season in
    let load : resource_load c (Quota night) list ≡ 0 =
    count_dates c.season period (movement_on kind minute later) (holds c (Quota night)) within
    ∙ count_below-none days (λ x. is_date c.season period x && holds c (Quota night) (movement_on kind minute later x)) (λ x _. and_right (is_date c.season period x) _ (and_right (ltb (x + later) days) _ off)) in
    night_load c night first list r is ∙ rw load (elim (cases_eq r first) [ inl same ↦ rw (eq-eqb r first same) refl | inr other ↦ rw (ne_eqb r first other) refl ])

-- a strip of one resource
abbrev pub single : ℕ → ℕ → Strip
single first times = record { first = first; width = 1; gap = 0; times = times }

single_on : (first i r : ℕ) → r ≡ first → leb (first + i * 0) r && ltb r (first + i * 0 + 1) ≡ true
single_on first i r same = grind (arith, nat_tests)

single_off : (first i r : ℕ) → (r ≡ first → ⊥) → leb (first + i * 0) r && ltb r (first + i * 0 + 1) ≡ false
single_off first i r other = grind (arith, nat_tests)

and_true : (b : Bool) → b && true ≡ b
and_true b = grind (arith, nat_tests)

single_uses : (first times r : ℕ) → strip_uses (single first times) r ≡ (if eqb r first then times else 0)
single_uses first times r =
    elim (cases_eq r first) [
      | inl same ↦ rw (eq-eqb r first same) (count_below-all times (is_in_run (single first times) r) (λ i _. single_on first i r same))
      | inr other ↦ rw (ne_eqb r first other) (count_below-none times (is_in_run (single first times) r) (λ i _. single_off first i r other))
    ]

-- a movement at night is counted once for each date on which it is listed
pub night_on : (c : Capacity) (night : Night) (first : ℕ) (kind : Kind) (minute later : ℕ) (period : Period) (r : ℕ) → c.night ≡ Some night → is_at_night night minute ≡ true → period.last.0 < date_count c.season
    → rest_load c [] first (stop_movements c kind minute later period) r ≡ strip_uses (single first (listed_dates c.season period later)) r
night_on c night first kind minute later period r is on within =
    let list = stop_movements c kind minute later period in
    let days = date_count c.season in
    let load : resource_load c (Quota night) list ≡ listed_dates c.season period later =
    count_dates c.season period (movement_on kind minute later) (holds c (Quota night)) within
    ∙ count_below-same days (λ x. is_date c.season period x && holds c (Quota night) (movement_on kind minute later x)) (λ x. is_date c.season period x && ltb (x + later) days) (λ x _. ap (λ (b : Bool). is_date c.season period x && (ltb (x + later) days && b)) on ∙ ap (λ (b : Bool). is_date c.season period x && b) (and_true (ltb (x + later) days))) in
    night_load c night first list r is ∙ ap (λ (k : ℕ). if eqb r first then k else 0) load ∙ sym (single_uses first (listed_dates c.season period later) r)

-- all of it is the load
pub rest_whole : (c : Capacity) (list : List Movement) (r : ℕ) → rest_load c c.rules 0 list r ≡ window_load c list r
rest_whole c list r = rw (le-leb 0 r (omega arith)) (ap (λ (k : ℕ). resource_load c (resource_from c c.rules k) list) (omega arith))

-- one rule more has been added
pub rest_step : (c : Capacity) (rules : List Rule) (i : ℕ) (d : Rule) (first size : ℕ) (list : List Movement) (r before after all : ℕ) → i < length rules → size ≡ windows_of c (get_or rules i d)
    → after ≡ before + rule_load c (get_or rules i d) first list r → before + rest_load c (drop i rules) first list r ≡ all → after + rest_load c (drop (i + 1) rules) (first + size) list r ≡ all
rest_step c rules i d first size list r before after all lt is added so_far =
    let rule = get_or rules i d in
    let next : drop i rules ≡ rule ∷ drop (i + 1) rules = rw (add-one, drop-cons rules i d lt) refl in
    let more = ap (λ (rest : List Rule). rest_load c rest first list r) next ∙ rest_more c rule (drop (i + 1) rules) first list r in
    let moved = ap (λ (n : ℕ). rest_load c (drop (i + 1) rules) (first + n) list r) is in
    omega (arith, more, moved, added, so_far)

-- after the last rule
pub rest_none : (c : Capacity) (rules : List Rule) (i first : ℕ) (list : List Movement) (r before after all : ℕ) → length rules ≤ i
    → after ≡ before + rest_load c [] first list r → before + rest_load c (drop i rules) first list r ≡ all → after ≡ all
rest_none c rules i first list r before after all le added so_far =
    let none = ap (λ (rest : List Rule). rest_load c rest first list r) (drop_of_length-le rules le) in
    omega (arith, none, added, so_far)
