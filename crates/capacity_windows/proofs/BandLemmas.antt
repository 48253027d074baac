-- The uses of a band, weekday by weekday: each weekday is one strip.
use Rattle.std.proofs.Common.{◌≡◌, zero, suc, ℕ, ◌+◌, ◌-◌, ◌*◌, ◌%◌, ◌<◌, ◌≤◌, min, Bool, true, false, ◌&&◌, leb, ltb, eqb, refl, sym, ◌∙◌, ap, arith, inl, inr}
use Rattle.std.specs.Prelude.{nat_lt}
use Rattle.std.proofs.lemmas.Bool.{lt-ltb, le-ltb, le-leb, lt-leb, ne_eqb, cases_lt, cases_eq, and_left, and_right}
use Rattle.std.proofs.lemmas.Bool.Decides.{nat_tests}
use Rattle.choice_problem.specs.declared.strips.Strip.{Strip}
use Rattle.choice_problem.specs.Strips.{is_in_run, strip_uses}
use Rattle.season_days.specs.Term.{Term}
use Rattle.season_days.specs.Seasons.{date_count, is_on}
use Rattle.season_days.specs.declared.day.Period.{Period}
use Rattle.capacity_windows.specs.declared.band.Band.{Band}
use Rattle.finite_sums.specs.Sums.{count_below}
use Rattle.capacity_windows.specs.Bands.{is_date, is_in_band, uses_band, weekday_uses, band_uses, first_date, end_date}
use Rattle.finite_sums.proofs.SumLemmas.{count_below-same, count_below-none}
use Rattle.capacity_windows.proofs.CountLemmas.{one_if, count_below-parts, class_first, class_times, class_test, count_below-class}

-- the same day of the week has the same answer, and the set of all seven weekdays has every day: laws of the calendar
abbrev pub IsWeekly : Term → Type 0
IsWeekly season = (days x y : ℕ) → x % 7 ≡ y % 7 → is_on season days x ≡ is_on season days y

abbrev pub IsEveryDay : Term → Type 0
IsEveryDay season = (day : ℕ) → is_on season 127 day ≡ true

-- the test of a resource, for the dates of the weekday of a first date
abbrev pub weekday_test : Term → Period → ℕ → Band → ℕ → ℕ → ℕ → Bool
weekday_test season period later band r first x = is_on season period.days first && (is_on season band.days (first + later - band.ago) && is_in_band band (x + later - band.ago) r)

-- the dates of a weekday that use a resource are those of a class within the ends
same_test : (p w t : Bool) (a b c d e f : ℕ) → a ≤ b → b ≤ c → d < e → f ≤ d → (leb a b && (leb b c && p)) && (ltb d e && (leb f d && (w && t))) ≡ (p && (w && t))
same_test p w t a b c d e f h1 h2 h3 h4 = rw (le-leb a b h1, le-leb b c h2, lt-ltb d e h3, le-leb f d h4) refl

outside_test : (p w t : Bool) (a b c d e f : ℕ) → (a ≤ b → b ≤ c → d < e → f ≤ d → ⊥) → (leb a b && (leb b c && p)) && (ltb d e && (leb f d && (w && t))) ≡ false
outside_test p w t a b c d e f h = grind (arith, nat_tests)

weekday_class : (season : Term) → IsWeekly season → (period : Period) (later : ℕ) (band : Band) (r c x : ℕ) → c < 7
    → eqb (x % 7) c && uses_band season period later band r x ≡ class_test (first_date period later band) (end_date season period later) c (weekday_test season period later band r (class_first (first_date period later band) c)) x
weekday_class season week period later band r c x lt =
    let low = first_date period later band in
    let end = end_date season period later in
    let first = class_first low c in
    let y = x + later in
    let n = date_count season in
    elim (cases_eq (x % 7) c) [
      | inr other ↦ rw (ne_eqb (x % 7) c other) refl
      | inl is ↦
          elim (cases_lt x low) [
            | inl early ↦
                and_right (eqb (x % 7) c) _ (outside_test (is_on season period.days x) (is_on season band.days (y - band.ago)) (is_in_band band (y - band.ago) r) period.first.0 x period.last.0 y n band.ago (omega arith))
                ∙ sym (and_right (eqb (x % 7) c) _ (and_left (leb low x) _ (lt-leb low x early)))
            | inr from ↦
                elim (cases_lt x end) [
                  | inr past ↦
                      and_right (eqb (x % 7) c) _ (outside_test (is_on season period.days x) (is_on season band.days (y - band.ago)) (is_in_band band (y - band.ago) r) period.first.0 x period.last.0 y n band.ago (omega arith))
                      ∙ sym (and_right (eqb (x % 7) c) _ (and_right (leb low x) _ (and_left (ltb x end) _ (le-ltb x end past))))
                  | inl below ↦
                      let days : is_on season period.days x ≡ is_on season period.days first = week period.days x first (omega arith) in
                      let on : is_on season band.days (y - band.ago) ≡ is_on season band.days (first + later - band.ago) = week band.days (y - band.ago) (first + later - band.ago) (omega arith) in
                      ap (λ (b : Bool). eqb (x % 7) c && b) (same_test (is_on season period.days x) (is_on season band.days (y - band.ago)) (is_in_band band (y - band.ago) r) period.first.0 x period.last.0 y n band.ago (omega arith) (omega arith) (omega arith) (omega arith) ∙ ap (λ (p : Bool). p && (is_on season band.days (y - band.ago) && is_in_band band (y - band.ago) r)) days ∙ ap (λ (w : Bool). is_on season period.days first && (w && is_in_band band (y - band.ago) r)) on)
                      ∙ sym (ap (λ (b : Bool). eqb (x % 7) c && b) (rw (le-leb low x from, lt-ltb x end below) refl))
                ]
          ]
    ]

-- the dates of weekdays below c + 1 are those below c and those of c
week_parts : (c x : ℕ) (p : Bool) → one_if (ltb (x % 7) (c + 1) && p) ≡ one_if (ltb (x % 7) c && p) + one_if (eqb (x % 7) c && p)
week_parts c x p = grind (arith, nat_tests)

-- one weekday more, by steps of a week
one_weekday : (season : Term) → IsWeekly season → (period : Period) (later : ℕ) (band : Band) (r c : ℕ) → c < 7
    → weekday_uses season period later band (c + 1) r ≡ weekday_uses season period later band c r + count_below (class_times (class_first (first_date period later band) c) (end_date season period later)) (λ t. weekday_test season period later band r (class_first (first_date period later band) c) (class_first (first_date period later band) c + 7 * t))
one_weekday season week period later band r c lt =
    let n = date_count season in
    let low = first_date period later band in
    let end = end_date season period later in
    let first = class_first low c in
    let h = weekday_test season period later band r first in
    let parts : weekday_uses season period later band (c + 1) r ≡ weekday_uses season period later band c r + count_below n (λ x. eqb (x % 7) c && uses_band season period later band r x) =
    count_below-parts n (λ x. nat_lt (x % 7) (c + 1) && uses_band season period later band r x) (λ x. nat_lt (x % 7) c && uses_band season period later band r x) (λ x. eqb (x % 7) c && uses_band season period later band r x) (λ x _. week_parts c x (uses_band season period later band r x)) in
    let class : count_below n (λ x. eqb (x % 7) c && uses_band season period later band r x) ≡ count_below n (class_test low end c h) =
    count_below-same n (λ x. eqb (x % 7) c && uses_band season period later band r x) (class_test low end c h) (λ x _. weekday_class season week period later band r c x lt) in
    let steps = count_below-class n low end c h lt in
    let ends : min n end ≡ end = omega arith in
    let times : count_below (class_times first (min n end)) (λ t. h (first + 7 * t)) ≡ count_below (class_times first end) (λ t. h (first + 7 * t)) = ap (λ (e : ℕ). count_below (class_times first e) (λ t. h (first + 7 * t))) ends in
    omega (arith, parts, class, steps, times)

-- no date of the weekday counts
pub weekday_none : (season : Term) → IsWeekly season → (period : Period) (later : ℕ) (band : Band) (r c : ℕ) → c < 7
    → end_date season period later ≤ class_first (first_date period later band) c
    → weekday_uses season period later band (c + 1) r ≡ weekday_uses season period later band c r
weekday_none season week period later band r c lt past =
    let first = class_first (first_date period later band) c in
    let h = weekday_test season period later band r first in
    let end = end_date season period later in
    let none : class_times first end ≡ 0 = omega arith in
    let zero : count_below (class_times first end) (λ t. h (first + 7 * t)) ≡ 0 = ap (λ (k : ℕ). count_below k (λ t. h (first + 7 * t))) none in
    omega (arith, one_weekday season week period later band r c lt, zero)

off_test : (p w t : Bool) → p && w ≡ false → p && (w && t) ≡ false
off_test p w t off = grind (arith, nat_tests)

pub weekday_off : (season : Term) → IsWeekly season → (period : Period) (later : ℕ) (band : Band) (r c : ℕ) → c < 7
    → is_on season period.days (class_first (first_date period later band) c) && is_on season band.days (class_first (first_date period later band) c + later - band.ago) ≡ false
    → weekday_uses season period later band (c + 1) r ≡ weekday_uses season period later band c r
weekday_off season week period later band r c lt off =
    let first = class_first (first_date period later band) c in
    let h = weekday_test season period later band r first in
    let end = end_date season period later in
    let zero : count_below (class_times first end) (λ t. h (first + 7 * t)) ≡ 0 = count_below-none (class_times first end) (λ t. h (first + 7 * t)) (λ t _. off_test _ _ (is_in_band band (first + 7 * t + later - band.ago) r) off) in
    omega (arith, one_weekday season week period later band r c lt, zero)

-- the strip of a weekday
abbrev pub weekday_strip : Term → Period → ℕ → Band → ℕ → Strip
weekday_strip season period later band first = record {
  first = band.first + (first + later - band.ago) * band.starts + band.low;
  width = band.high - band.low;
  gap = 7 * band.starts;
  times = class_times first (end_date season period later);
}

on_test : (p w t : Bool) → p ≡ true → w ≡ true → p && (w && t) ≡ t
on_test p w t on_p on_w = rw (on_p, on_w) refl

-- a band some weeks later is a run of the strip
run_test : (first row start low high t gap r : ℕ) → low ≤ high → row ≡ start + t * gap
    → leb (first + row + low) r && ltb r (first + row + high) ≡ leb (first + start + low + t * gap) r && ltb r (first + start + low + t * gap + (high - low))
run_test first row start low high t gap r ordered is =
    let begin : first + row + low ≡ first + start + low + t * gap = omega arith in
    let end : first + row + high ≡ first + start + low + t * gap + (high - low) = omega arith in
    ap (λ (b : ℕ). leb b r && ltb r (first + row + high)) begin ∙ ap (λ (e : ℕ). leb (first + start + low + t * gap) r && ltb r e) end

-- rows of weeks, and of days
week_rows : (day start t starts : ℕ) → day ≡ start + 7 * t → day * starts ≡ start * starts + t * (7 * starts)
week_rows day start t starts is = rw is (omega arith)

day_rows : (day start t starts : ℕ) → day ≡ start + t → day * starts ≡ start * starts + t * starts
day_rows day start t starts is = rw is (omega arith)

pub weekday_on : (season : Term) → IsWeekly season → (period : Period) (later : ℕ) (band : Band) (r c : ℕ) → c < 7
    → is_on season period.days (class_first (first_date period later band) c) ≡ true
    → is_on season band.days (class_first (first_date period later band) c + later - band.ago) ≡ true
    → band.low ≤ band.high
    → weekday_uses season period later band (c + 1) r ≡ weekday_uses season period later band c r + strip_uses (weekday_strip season period later band (class_first (first_date period later band) c)) r
weekday_on season week period later band r c lt on_date on_day ordered =
    let first = class_first (first_date period later band) c in
    let h = weekday_test season period later band r first in
    let end = end_date season period later in
    let strip = weekday_strip season period later band first in
    let same : count_below (class_times first end) (λ t. h (first + 7 * t)) ≡ strip_uses strip r = count_below-same (class_times first end) (λ t. h (first + 7 * t)) (is_in_run strip r) (λ t _.
    on_test _ _ _ on_date on_day
    ∙ run_test band.first ((first + 7 * t + later - band.ago) * band.starts) ((first + later - band.ago) * band.starts) band.low band.high t (7 * band.starts) r ordered (week_rows (first + 7 * t + later - band.ago) (first + later - band.ago) t band.starts (omega arith))) in
    omega (arith, one_weekday season week period later band r c lt, same)

-- the same, where the ends are known by other names
pub weekday_past : (season : Term) → IsWeekly season → (period : Period) (later : ℕ) (band : Band) (r c low end : ℕ) → c < 7 → low ≡ first_date period later band → end ≡ end_date season period later
    → end ≤ class_first low c → weekday_uses season period later band (c + 1) r ≡ weekday_uses season period later band c r
weekday_past season week period later band r c low end lt is_low is_end past = weekday_none season week period later band r c lt (rw (← is_low, ← is_end) past)

pub weekday_date_off : (season : Term) → IsWeekly season → (period : Period) (later : ℕ) (band : Band) (r c low : ℕ) → c < 7 → low ≡ first_date period later band
    → is_on season period.days (class_first low c) ≡ false → weekday_uses season period later band (c + 1) r ≡ weekday_uses season period later band c r
weekday_date_off season week period later band r c low lt is_low off = weekday_off season week period later band r c lt (rw (← is_low) (and_left (is_on season period.days (class_first low c)) _ off))

pub weekday_day_off : (season : Term) → IsWeekly season → (period : Period) (later : ℕ) (band : Band) (r c low : ℕ) → c < 7 → low ≡ first_date period later band
    → is_on season band.days (class_first low c + later - band.ago) ≡ false → weekday_uses season period later band (c + 1) r ≡ weekday_uses season period later band c r
weekday_day_off season week period later band r c low lt is_low off = weekday_off season week period later band r c lt (rw (← is_low) (and_right (is_on season period.days (class_first low c)) _ off))

pub weekday_strip_uses : (season : Term) → IsWeekly season → (period : Period) (later : ℕ) (band : Band) (r c low end : ℕ) → c < 7 → low ≡ first_date period later band → end ≡ end_date season period later
    → is_on season period.days (class_first low c) ≡ true → is_on season band.days (class_first low c + later - band.ago) ≡ true → band.low ≤ band.high
    → weekday_uses season period later band (c + 1) r ≡ weekday_uses season period later band c r + strip_uses (record {
      first = band.first + (class_first low c + later - band.ago) * band.starts + band.low;
      width = band.high - band.low;
      gap = 7 * band.starts;
      times = class_times (class_first low c) end;
    }) r
weekday_strip_uses season week period later band r c low end lt is_low is_end on_date on_day ordered =
    rw (is_low, is_end) (weekday_on season week period later band r c lt (rw (← is_low) on_date) (rw (← is_low) on_day) ordered)

-- all weekdays, and none
pub weekdays_all : (season : Term) (period : Period) (later : ℕ) (band : Band) (r : ℕ) → weekday_uses season period later band 7 r ≡ band_uses season period later band r
weekdays_all season period later band r = count_below-same (date_count season) (λ x. nat_lt (x % 7) 7 && uses_band season period later band r x) (uses_band season period later band r) (λ x _. rw (lt-ltb (x % 7) 7 (omega arith)) refl)

pub weekdays_none : (season : Term) (period : Period) (later : ℕ) (band : Band) (r : ℕ) → weekday_uses season period later band 0 r ≡ 0
weekdays_none season period later band r = count_below-none (date_count season) (λ x. nat_lt (x % 7) 0 && uses_band season period later band r x) (λ x _. and_left (ltb (x % 7) 0) _ (le-ltb (x % 7) 0 (omega arith)))

-- a band without starts
no_starts : (first row low high r : ℕ) → high ≤ low → leb (first + row + low) r && ltb r (first + row + high) ≡ false
no_starts first row low high r le = grind (arith, nat_tests)

pub band_empty : (season : Term) (period : Period) (later : ℕ) (band : Band) (r : ℕ) → band.high ≤ band.low → band_uses season period later band r ≡ 0
band_empty season period later band r le =
    count_below-none (date_count season) (uses_band season period later band r) (λ x _.
    and_right (is_date season period x) _ (and_right (ltb (x + later) (date_count season)) _ (and_right (leb band.ago (x + later)) _ (and_right (is_on season band.days (x + later - band.ago)) _
    (no_starts band.first ((x + later - band.ago) * band.starts) band.low band.high r le)))))

-- numbers one after another, from low on and below an end
abbrev pub days_test : ℕ → ℕ → (ℕ → Bool) → ℕ → Bool
days_test low end h x = leb low x && (ltb x end && h x)

count_below-days : (n low end : ℕ) (h : ℕ → Bool) → count_below n (days_test low end h) ≡ count_below (min n end - low) (λ t. h (low + t))
count_below-days zero low end h = let none : min 0 end - low ≡ 0 = omega arith in sym (ap (λ (k : ℕ). count_below k (λ t. h (low + t))) none)
count_below-days (suc n) low end h =
    let counted : ℕ → ℕ = λ (k : ℕ). count_below k (λ t. h (low + t)) in
    let so_far = count_below-days n low end h in
    elim (cases_lt n low) [
      | inl early ↦
          let none = ap one_if (and_left (leb low n) (ltb n end && h n) (lt-leb low n early)) in
          let same = ap counted (let e : min (suc n) end - low ≡ min n end - low = omega arith in e) in
          omega (arith, so_far, none, same)
      | inr from ↦
          elim (cases_lt n end) [
            | inr past ↦
                let none = ap one_if (and_right (leb low n) (ltb n end && h n) (and_left (ltb n end) (h n) (le-ltb n end past))) in
                let same = ap counted (let e : min (suc n) end - low ≡ min n end - low = omega arith in e) in
                omega (arith, so_far, none, same)
            | inl below ↦
                let here : low + (min n end - low) ≡ n = omega arith in
                let test : leb low n && (ltb n end && h n) ≡ h n = rw (le-leb low n from, lt-ltb n end below) refl in
                let one = ap one_if test ∙ ap (λ (k : ℕ). one_if (h k)) (sym here) in
                let next = ap counted (let e : min (suc n) end - low ≡ suc (min n end - low) = omega arith in e) in
                omega (arith, so_far, one, next)
          ]
    ]

-- a stop of every day in a rule of every day
daily_test : (season : Term) → IsEveryDay season → (period : Period) (later : ℕ) (band : Band) (r x : ℕ) → period.days ≡ 127 → band.days ≡ 127
    → uses_band season period later band r x ≡ days_test (first_date period later band) (end_date season period later) (λ d. is_in_band band (d + later - band.ago) r) x
daily_test season every period later band r x dates days =
    let low = first_date period later band in
    let end = end_date season period later in
    let y = x + later in
    let n = date_count season in
    let on : is_on season period.days x ≡ true = ap (λ (k : ℕ). is_on season k x) dates ∙ every x in
    let on_day : is_on season band.days (y - band.ago) ≡ true = ap (λ (k : ℕ). is_on season k (y - band.ago)) days ∙ every (y - band.ago) in
    elim (cases_lt x low) [
      | inl early ↦
          outside_test (is_on season period.days x) (is_on season band.days (y - band.ago)) (is_in_band band (y - band.ago) r) period.first.0 x period.last.0 y n band.ago (omega arith)
          ∙ sym (and_left (leb low x) _ (lt-leb low x early))
      | inr from ↦
          elim (cases_lt x end) [
            | inr past ↦
                outside_test (is_on season period.days x) (is_on season band.days (y - band.ago)) (is_in_band band (y - band.ago) r) period.first.0 x period.last.0 y n band.ago (omega arith)
                ∙ sym (and_right (leb low x) _ (and_left (ltb x end) _ (le-ltb x end past)))
            | inl below ↦
                same_test (is_on season period.days x) (is_on season band.days (y - band.ago)) (is_in_band band (y - band.ago) r) period.first.0 x period.last.0 y n band.ago (omega arith) (omega arith) (omega arith) (omega arith)
                ∙ on_test (is_on season period.days x) (is_on season band.days (y - band.ago)) (is_in_band band (y - band.ago) r) on on_day
                ∙ sym (rw (le-leb low x from, lt-ltb x end below) refl)
          ]
    ]

-- day by day
daily_uses : (season : Term) → IsEveryDay season → (period : Period) (later : ℕ) (band : Band) (r : ℕ) → period.days ≡ 127 → band.days ≡ 127 → period.last.0 < date_count season
    → band_uses season period later band r ≡ count_below (end_date season period later - first_date period later band) (λ t. is_in_band band (first_date period later band + t + later - band.ago) r)
daily_uses season every period later band r dates days within =
    let n = date_count season in
    let low = first_date period later band in
    let end = end_date season period later in
    let h : ℕ → Bool = λ (d : ℕ). is_in_band band (d + later - band.ago) r in
    let ends : min n end ≡ end = omega arith in
    count_below-same n (uses_band season period later band r) (days_test low end h) (λ x _. daily_test season every period later band r x dates days)
    ∙ count_below-days n low end h
    ∙ ap (λ (e : ℕ). count_below (e - low) (λ t. h (low + t))) ends

pub daily_none : (season : Term) → IsEveryDay season → (period : Period) (later : ℕ) (band : Band) (r : ℕ) → period.days ≡ 127 → band.days ≡ 127 → period.last.0 < date_count season
    → end_date season period later ≤ first_date period later band → band_uses season period later band r ≡ 0
daily_none season every period later band r dates days within past =
    let none : end_date season period later - first_date period later band ≡ 0 = omega arith in
    daily_uses season every period later band r dates days within ∙ ap (λ (k : ℕ). count_below k (λ t. is_in_band band (first_date period later band + t + later - band.ago) r)) none

pub daily_strip_uses : (season : Term) → IsEveryDay season → (period : Period) (later : ℕ) (band : Band) (r low end : ℕ) → period.days ≡ 127 → band.days ≡ 127 → period.last.0 < date_count season
    → low ≡ first_date period later band → end ≡ end_date season period later → band.low ≤ band.high
    → band_uses season period later band r ≡ strip_uses (record {
      first = band.first + (low + later - band.ago) * band.starts + band.low;
      width = band.high - band.low;
      gap = band.starts;
      times = end - low;
    }) r
daily_strip_uses season every period later band r low end dates days within is_low is_end ordered =
    rw (is_low, is_end)
    (let first = first_date period later band in
    let times = end_date season period later - first in
    daily_uses season every period later band r dates days within
    ∙ count_below-same times (λ t. is_in_band band (first + t + later - band.ago) r) (λ t. leb (band.first + (first + later - band.ago) * band.starts + band.low + t * band.starts) r && ltb r (band.first + (first + later - band.ago) * band.starts + band.low + t * band.starts + (band.high - band.low)))
    (λ t _. run_test band.first ((first + t + later - band.ago) * band.starts) ((first + later - band.ago) * band.starts) band.low band.high t band.starts r ordered (day_rows (first + t + later - band.ago) (first + later - band.ago) t band.starts (omega arith))))
