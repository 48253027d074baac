-- The dates of periods beside one another.
use Rattle.std.proofs.Common.{◌≡◌, ◌≢◌, ℕ, ◌+◌, ◌-◌, ◌<◌, ◌≤◌, min, max, true, ltb, ◌⊎◌, List, [], ◌∷◌, length, Option, Some, None, ◌↔◌, refl, ap, arith, inl, inr}
use Rattle.std.specs.Prelude.{All, Contains, bit_and}
use Rattle.std.specs.Int.{bit_at}
use Rattle.std.proofs.lemmas.Bool.{cases_Bool, eqb-true, eq-eqb, both_ways, ltb-true, ltb-false}
use Rattle.std.proofs.lemmas.Nat.Bits.{bit_at_and, bit_at_xor}
use Rattle.season_days.specs.Term.{Term}
use Rattle.season_days.specs.Seasons.{is_on, weekday_on, dates_of}
use Rattle.season_days.specs.Periods.{days_without, part_before, part_between, part_after, some_if_any, if_dated, part_dates, cut_of, IsInOne}
use Rattle.season_days.specs.declared.day.Period.{Period}
use Rattle.std.proofs.lemmas.List.Elements.{All-nil, All-cons}
use Rattle.season_days.proofs.PeriodLemmas.{kept_in, in_kept}

-- the dates are the days from the first to the last that are on the weekdays
abbrev pub IsDateBy : Term → Period → ℕ → Type 0
IsDateBy season period day = (period.first.0 ≤ day) × (day ≤ period.last.0) × (is_on season period.days day ≡ true)

pub date_in : (season : Term) (period : Period) (day : ℕ) → IsDateBy season period day → Contains (dates_of season period) day
date_in season period day is = kept_in (is_on season period.days) period.first.0 (period.last.0 + 1 - period.first.0) day is.0 (omega (arith, is.0, is.1)) is.2

pub in_dates : (season : Term) (period : Period) (day : ℕ) → Contains (dates_of season period) day → IsDateBy season period day
in_dates season period day has = let is = in_kept (is_on season period.days) period.first.0 (period.last.0 + 1 - period.first.0) day has in (is.0, omega (arith, is.0, is.1), is.2)

pub cases_from : (a b : ℕ) → (a ≤ b) ⊎ (b < a)
cases_from a b =
    elim (cases_Bool (ltb b a)) [
      | inl below ↦ inr (ltb-true _ _ below)
      | inr other ↦ inl (let ge = ltb-false b a other in omega (arith, ge))
    ]

pub in_or_not : (season : Term) (period : Period) (day : ℕ) → Contains (dates_of season period) day ⊎ (Contains (dates_of season period) day → ⊥)
in_or_not season period day =
    elim (cases_from period.first.0 day) [
      | inr early ↦ inr (λ has. let m = in_dates season period day has in omega (arith, m.0, early))
      | inl from ↦ elim (cases_from day period.last.0) [
        | inr late ↦ inr (λ has. let m = in_dates season period day has in omega (arith, m.1, late))
        | inl to ↦ elim (cases_Bool (is_on season period.days day)) [
          | inl on ↦ inl (date_in season period day (from, to, on))
          | inr off ↦ inr (λ has. both_ways (is_on season period.days day) off (in_dates season period day has).2)
        ]
      ]
    ]

-- ---- lists with a member, and without

pub nothing_in : (xs : List ℕ) → ((x : ℕ) → Contains xs x → ⊥) → xs ≡ []
nothing_in [] none = refl
nothing_in (x ∷ xs) none = absurd (none x (0, omega arith, refl))

pub something_in : (xs : List ℕ) (x : ℕ) → Contains xs x → xs ≡ [] → ⊥
something_in xs x has none = omega (arith, has.1, ap length none)

pub one_of : (xs : List ℕ) → xs ≢ [] → (x : ℕ) × Contains xs x
one_of [] some = absurd (some refl)
one_of (x ∷ xs) some = (x, (0, omega arith, refl))

-- ---- weekdays of two sets

pub on_both : (season : Term) (days others day : ℕ) → is_on season days day ≡ true → is_on season others day ≡ true → is_on season (bit_and days others) day ≡ true
unfolding is_on
on_both season days others day a b =
    let k = weekday_on season day - 1 in
    let one : bit_at days k ≡ 1 = eqb-true _ _ a in
    let other : bit_at others k ≡ 1 = eqb-true _ _ b in
    let both : bit_at (bit_and days others) k ≡ 1 = omega (arith, bit_at_and days others k, one, other) in
    eq-eqb _ _ both

pub both_on : (season : Term) (days others day : ℕ) → is_on season (bit_and days others) day ≡ true → (is_on season days day ≡ true) × (is_on season others day ≡ true)
unfolding is_on
both_on season days others day a =
    let k = weekday_on season day - 1 in
    let both : bit_at (bit_and days others) k ≡ 1 = eqb-true _ _ a in
    let one : bit_at days k ≡ 1 = omega (arith, bit_at_and days others k, both) in
    let other : bit_at others k ≡ 1 = omega (arith, bit_at_and days others k, both) in
    (eq-eqb _ _ one, eq-eqb _ _ other)

pub on_without : (season : Term) (days others day : ℕ) → is_on season days day ≡ true → (is_on season others day ≡ true → ⊥) → is_on season (days_without days others) day ≡ true
unfolding is_on
on_without season days others day a none =
    let k = weekday_on season day - 1 in
    let one : bit_at days k ≡ 1 = eqb-true _ _ a in
    let other : bit_at others k ≡ 1 → ⊥ = λ e. none (eq-eqb _ _ e) in
    let rest : bit_at (days_without days others) k ≡ 1 = omega (arith, bit_at_xor days (bit_and days others) k, bit_at_and days others k, one, other) in
    eq-eqb _ _ rest

pub without_on : (season : Term) (days others day : ℕ) → is_on season (days_without days others) day ≡ true → (is_on season days day ≡ true) × (is_on season others day ≡ true → ⊥)
unfolding is_on
without_on season days others day a =
    let k = weekday_on season day - 1 in
    let rest : bit_at (days_without days others) k ≡ 1 = eqb-true _ _ a in
    let one : bit_at days k ≡ 1 = omega (arith, bit_at_xor days (bit_and days others) k, bit_at_and days others k, rest) in
    (eq-eqb _ _ one, λ b. let other : bit_at others k ≡ 1 = eqb-true _ _ b in omega (arith, bit_at_xor days (bit_and days others) k, bit_at_and days others k, rest, one, other))

-- ---- parts that have dates

some_dates : (season : Term) (part : Period) (dates : List ℕ) → dates_of season part ≡ dates → part_dates season (some_if_any part dates) ≡ dates
some_dates season part [] e = refl
some_dates season part (day ∷ dates) e = e

-- a part that is dropped has no dates
pub dated_same : (season : Term) (part : Option Period) → part_dates season (if_dated season part) ≡ part_dates season part
dated_same season None = refl
dated_same season (Some part) = some_dates season part (dates_of season part) refl

pub dated_kept : (part : Period) (dates : List ℕ) → dates ≢ [] → Some part ≡ some_if_any part dates
dated_kept part [] some = absurd (some refl)
dated_kept part (day ∷ dates) some = refl

pub dated_dropped : (part : Period) (dates : List ℕ) → (dates ≢ [] → ⊥) → None ≡ some_if_any part dates
dated_dropped part [] none = refl
dated_dropped part (day ∷ dates) none = absurd (none (λ e. absurd cc))

-- ---- the dates of the three parts

pub before_is : (season : Term) (held asked : Period) (day : ℕ) → Contains (part_dates season (part_before held asked)) day ↔ (Contains (dates_of season held) day × (day < asked.first.0))
before_is season held asked day =
    elim (cases_Bool (ltb held.first.0 asked.first.0)) [
      | inl lt ↦
          let early = ltb-true _ _ lt in
          let part : Period = record { first = held.first; last = record { 0 = min held.last.0 (asked.first.0 - 1) }; days = held.days } in
          rw lt (
            λ has. let m = in_dates season part day has in (date_in season held day (m.0, omega (arith, m.1), m.2), omega (arith, m.1, early)),
            λ is. let m = in_dates season held day is.0 in date_in season part day (m.0, omega (arith, m.1, is.1), m.2),
          )
      | inr late ↦
          let ge = ltb-false _ _ late in
          rw late (
            λ has. absurd (omega (arith, has.1)),
            λ is. let m = in_dates season held day is.0 in absurd (omega (arith, m.0, is.1, ge)),
          )
    ]

pub after_is : (season : Term) (held asked : Period) (day : ℕ) → Contains (part_dates season (part_after held asked)) day ↔ (Contains (dates_of season held) day × (asked.last.0 < day))
after_is season held asked day =
    elim (cases_Bool (ltb asked.last.0 held.last.0)) [
      | inl lt ↦
          let part : Period = record { first = record { 0 = max held.first.0 (asked.last.0 + 1) }; last = held.last; days = held.days } in
          rw lt (
            λ has. let m = in_dates season part day has in (date_in season held day (omega (arith, m.0), m.1, m.2), omega (arith, m.0)),
            λ is. let m = in_dates season held day is.0 in date_in season part day (omega (arith, m.0, is.1), m.1, m.2),
          )
      | inr late ↦
          let ge = ltb-false _ _ late in
          rw late (
            λ has. absurd (omega (arith, has.1)),
            λ is. let m = in_dates season held day is.0 in absurd (omega (arith, m.1, is.1, ge)),
          )
    ]

-- a held day from the first asked one to the last that is not asked
abbrev pub IsBetween : Term → Period → Period → ℕ → Type 0
IsBetween season held asked day = Contains (dates_of season held) day × (asked.first.0 ≤ day) × (day ≤ asked.last.0) × (Contains (dates_of season asked) day → ⊥)

pub between_is : (season : Term) (held asked : Period) (day : ℕ) → Contains (part_dates season (part_between held asked)) day ↔ IsBetween season held asked day
between_is season held asked day =
    let part : Period = record { first = record { 0 = max held.first.0 asked.first.0 }; last = record { 0 = min held.last.0 asked.last.0 }; days = days_without held.days asked.days } in (
      λ has.
          let m = in_dates season part day has in
          let on = without_on season held.days asked.days day m.2 in
          (date_in season held day (omega (arith, m.0), omega (arith, m.1), on.0), omega (arith, m.0), omega (arith, m.1), λ other. on.1 (in_dates season asked day other).2),
      λ is.
          let m = in_dates season held day is.0 in
          date_in season part day (omega (arith, m.0, is.1), omega (arith, m.1, is.2), on_without season held.days asked.days day m.2 (λ on. is.3 (date_in season asked day (is.1, is.2, on)))),
    )

-- as the cut has them
pub cut_before : (season : Term) (held asked : Period) (day : ℕ) → Contains (part_dates season (cut_of season held asked).before) day ↔ (Contains (dates_of season held) day × (day < asked.first.0))
cut_before season held asked day = rw (dated_same season (part_before held asked)) (before_is season held asked day)

pub cut_between : (season : Term) (held asked : Period) (day : ℕ) → Contains (part_dates season (cut_of season held asked).between) day ↔ IsBetween season held asked day
cut_between season held asked day = rw (dated_same season (part_between held asked)) (between_is season held asked day)

pub cut_after : (season : Term) (held asked : Period) (day : ℕ) → Contains (part_dates season (cut_of season held asked).after) day ↔ (Contains (dates_of season held) day × (asked.last.0 < day))
cut_after season held asked day = rw (dated_same season (part_after held asked)) (after_is season held asked day)

abbrev Lacks : ℕ → List ℕ → Type 0
Lacks day days = Contains days day → ⊥

one_lacks : (day : ℕ) (a : List ℕ) → Lacks day a → All (Lacks day) (a ∷ [])
one_lacks day a x = All-cons (Lacks day) a [] x (All-nil (Lacks day))

two_lack : (day : ℕ) (a b : List ℕ) → Lacks day a → Lacks day b → All (Lacks day) (a ∷ b ∷ [])
two_lack day a b x y = All-cons (Lacks day) a (b ∷ []) x (one_lacks day b y)

three_lack : (day : ℕ) (a b c : List ℕ) → Lacks day a → Lacks day b → Lacks day c → All (Lacks day) (a ∷ b ∷ c ∷ [])
three_lack day a b c x y z = All-cons (Lacks day) a (b ∷ c ∷ []) x (two_lack day b c y z)

-- each held date is in the asked period or in one part
pub cut_once : (season : Term) (held asked : Period) (day : ℕ) → asked.first.0 ≤ asked.last.0 → Contains (dates_of season held) day
    → IsInOne day (dates_of season asked ∷ part_dates season (cut_of season held asked).before ∷ part_dates season (cut_of season held asked).between ∷ part_dates season (cut_of season held asked).after ∷ [])
cut_once season held asked day ordered has =
    let before = cut_before season held asked day in
    let between = cut_between season held asked day in
    let after = cut_after season held asked day in
    let front = part_dates season (cut_of season held asked).before in
    let middle = part_dates season (cut_of season held asked).between in
    let back = part_dates season (cut_of season held asked).after in
    elim (in_or_not season asked day) [
      | inl is ↦
          let m = in_dates season asked day is in
          inl (is, three_lack day front middle back (λ b. let lt = (before.0 b).1 in omega (arith, lt, m.0)) (λ b. (between.0 b).3 is) (λ b. let lt = (after.0 b).1 in omega (arith, lt, m.1)))
      | inr none ↦ inr (
        none,
        elim (cases_from asked.first.0 day) [
          | inr early ↦
              inl (before.1 (has, early), two_lack day middle back (λ b. let ge = (between.0 b).1 in omega (arith, ge, early)) (λ b. let lt = (after.0 b).1 in omega (arith, lt, early, ordered)))
          | inl from ↦ inr (
            λ b. let lt = (before.0 b).1 in omega (arith, lt, from),
            elim (cases_from day asked.last.0) [
              | inl to ↦ inl (between.1 (has, from, to, none), one_lacks day back (λ b. let lt = (after.0 b).1 in omega (arith, lt, to)))
              | inr late ↦ inr (λ b. let le = (between.0 b).2 in omega (arith, le, late), inl (after.1 (has, late), All-nil (Lacks day)))
            ],
          )
        ],
      )
    ]
