-- Whether a resource that is above its limit holds a movement, and on how many dates.
use Rattle.std.proofs.Common.{◌≡◌, ℕ, zero, suc, ◌+◌, ◌-◌, ◌*◌, ◌<◌, ◌≤◌, ◌⊎◌, inl, inr, Bool, true, false, ◌&&◌, ◌||◌, cond, refl, sym, ◌∙◌, ap, subst, arith, List, [], ◌∷◌, ◌++◌, length, ℤ}
use Rattle.std.specs.Prelude.{◌↔◌, Option, Some, None, is_some, IfSome, IsNone, IsTrue, filter, slice_get, sum_by, count_by, if◌then◌else◌}
use Rattle.std.specs.List.{range_with_len, list_any}
use mir.Val.{bool_byte}
use Rattle.std.proofs.lemmas.Bool.{cases_lt, cases_Bool, and_parts, and_cases, and_left, or_left, or_right, or_from, le-ltb, lt-ltb}
use Rattle.std.proofs.lemmas.List.Folds.{list_any-append}
use Rattle.std.proofs.lemmas.Option.{slice_get_within}
use Rattle.std.proofs.lemmas.List.Sums.{sum_by-cons}
use Rattle.season_days.specs.Term.{Term}
use Rattle.season_days.specs.Seasons.{date_count, days_from}
use Rattle.season_days.specs.declared.declaration.Rule.{Rule}
use Rattle.season_days.specs.declared.declaration.Night.{Night}
use Rattle.season_days.specs.declared.declaration.TheConstants.{MINUTES_OF_DAY}
use Rattle.capacity_windows.specs.Windows.{Capacity, IsCapacity, declared_resources, resource_at, holds, windows_of, first_of, starts_of, IsHeldRun, IsWindowAgo}
use Rattle.capacity_windows.specs.declared.movement.Movement.{Movement}
use Rattle.capacity_windows.specs.declared.resource.Resource.{Resource}
use Rattle.capacity_windows.specs.declared.resource.Resource.TheVariants.{Window}
use Rattle.series_model.specs.Movements.{listed}
use Rattle.season_report.specs.Reasons.{is_held_by}
use Rattle.season_report.specs.Private.{is_above_at, resources_above, IsLowest, IsBarred, IsClearOf, IsClearOfQuota}

-- ---- a test of those that pass another

any_found : (test p : ℕ → Bool) (start n r : ℕ) → start ≤ r → r < start + n → p r ≡ true → test r ≡ true → list_any test (filter p (range_with_len start n)) ≡ true
any_found test p start zero r from to passes is = absurd (omega arith)
any_found test p start (suc n) r from to passes is =
    let rest = filter p (range_with_len (start + 1) n) in
    elim (cases_lt start r) as (λ w. list_any test (filter p (range_with_len start (suc n))) ≡ true) [
      | inl later ↦
          let found : list_any test rest ≡ true = any_found test p (start + 1) n r (omega arith) (omega arith) passes is in
          elim (p start) as (λ b. list_any test (cond b (start ∷ rest) rest) ≡ true) [
            | true ↦ or_right (test start) (list_any test rest) found
            | false ↦ found
          ]
      | inr here ↦
          let same : r ≡ start = omega arith in
          let head : p start ≡ true = subst (λ (k : ℕ). p k ≡ true) same passes in
          let own : test start ≡ true = subst (λ (k : ℕ). test k ≡ true) same is in
          ap (λ (b : Bool). list_any test (cond b (start ∷ rest) rest)) head ∙ ap (λ (b : Bool). b || list_any test rest) own
    ]

none_found : (test p : ℕ → Bool) (start n : ℕ) → ((r : ℕ) → start ≤ r → r < start + n → p r ≡ true → test r ≡ false) → list_any test (filter p (range_with_len start n)) ≡ false
none_found test p start zero none = refl
none_found test p start (suc n) none =
    let rest = filter p (range_with_len (start + 1) n) in
    let later : list_any test rest ≡ false = none_found test p (start + 1) n (λ r from to. none r (omega arith) (omega arith)) in
    (elim (p start) as (λ b. p start ≡ b → list_any test (cond b (start ∷ rest) rest) ≡ false) [
      | true ↦ λ is. or_from (test start) (list_any test rest) (none start (omega arith) (omega arith) is) later
      | false ↦ λ is. later
    ]) refl

-- ---- one movement

pub held_true : (c : Capacity) (m : Movement) (counts : List ℕ) (limits : List ℤ) → IsBarred c m counts limits → is_held_by c (resources_above counts limits) m ≡ true
held_true c m counts limits is =
    any_found (λ r. holds c (resource_at c r) m) (is_above_at counts limits) 0 (length counts) is.0 (omega arith) (omega (arith, is.1)) is.2 is.3

-- the law of windows
abbrev pub HeldWindows : Type 0
HeldWindows = (c : Capacity) (m : Movement) (r : ℕ) → IsCapacity c → m.minute < MINUTES_OF_DAY → r < declared_resources c → holds c (resource_at c r) m ≡ true →
    (r ≡ sum_by (windows_of c) c.rules) ⊎ ((rule ago day start : ℕ) × (of : Rule) × IsWindowAgo c m r rule ago day start of)

-- no window of a line is above that holds the movement
pub record AreClear (c : Capacity) (rules : ℕ) (m : Movement) (counts : List ℕ) (limits : List ℤ) : Type 0 where
  pub same_day : (rule : ℕ) → rule < rules → IsClearOf c rule 0 m counts limits
  pub day_before : (rule : ℕ) → rule < rules → IsClearOf c rule 1 m counts limits

at_some : {A : Type 0} (o : Option A) (x : A) (P : A → Type 0) → o ≡ Some x → IfSome o P → P x
at_some o x P is h = subst (λ p. IfSome p P) is h

window_clear : (c : Capacity) (m : Movement) (counts : List ℕ) (limits : List ℤ) (r rule ago day start : ℕ) (of : Rule) → AreClear c (length c.rules) m counts limits →
    IsWindowAgo c m r rule ago day start of → holds c (resource_at c r) m ≡ true → is_above_at counts limits r ≡ false
window_clear c m counts limits r rule ago day start of clear is held =
    let there : rule < length c.rules = slice_get_within c.rules rule of is.line in
    let number : first_of c rule + day * starts_of c.step of + start ≡ r = sym is.number in
    let window : holds c (Window of day start) m ≡ true = subst (λ (resource : Resource). holds c resource m ≡ true) is.window held in
    let clear_of : IsClearOf c rule ago m counts limits =
    elim (cases_lt ago 1) as (λ w. IsClearOf c rule ago m counts limits) [
      | inl before ↦ let same : 0 ≡ ago = omega arith in subst (λ (k : ℕ). IsClearOf c rule k m counts limits) same (clear.same_day rule there)
      | inr after ↦ let same : 1 ≡ ago = omega (arith, is.near) in subst (λ (k : ℕ). IsClearOf c rule k m counts limits) same (clear.day_before rule there)
    ] in
    subst (λ (k : ℕ). is_above_at counts limits k ≡ false) number
    (at_some (slice_get c.rules rule) of (λ (x : Rule). start < starts_of c.step x → holds c (Window x day start) m ≡ true → is_above_at counts limits (first_of c rule + day * starts_of c.step x + start) ≡ false)
    is.line (clear_of day start is.begins) is.column window)

all_clear : HeldWindows → (c : Capacity) (m : Movement) (counts : List ℕ) (limits : List ℤ) (r : ℕ) → IsCapacity c → m.minute < MINUTES_OF_DAY → length counts ≡ declared_resources c →
    AreClear c (length c.rules) m counts limits → IsClearOfQuota c m counts limits → r < length counts → is_above_at counts limits r ≡ true → holds c (resource_at c r) m ≡ false
all_clear law c m counts limits r keeps minute same clear quota lt above =
    elim (cases_Bool (holds c (resource_at c r) m)) as (λ w. holds c (resource_at c r) m ≡ false) [
      | inl held ↦ elim (law c m r keeps minute (omega (arith, lt, same)) held) as (λ w. holds c (resource_at c r) m ≡ false) [
        | inl last ↦ let not_above : is_above_at counts limits r ≡ false = quota r last (omega (arith, lt, same)) held in cc
        | inr found ↦ let not_above : is_above_at counts limits r ≡ false = window_clear c m counts limits r found.0 found.1 found.2 found.3 found.4 clear found.5 held in cc
      ]
      | inr free ↦ free
    ]

pub quota_settles : HeldWindows → (c : Capacity) (m : Movement) (counts : List ℕ) (limits : List ℤ) (b : Bool) → IsCapacity c → m.minute < MINUTES_OF_DAY → length counts ≡ declared_resources c →
    AreClear c (length c.rules) m counts limits → (IsTrue b → IsBarred c m counts limits) → (b ≡ false → IsClearOfQuota c m counts limits) → b ≡ is_held_by c (resources_above counts limits) m
quota_settles law c m counts limits true keeps minute same clear some none = sym (held_true c m counts limits (some refl))
quota_settles law c m counts limits false keeps minute same clear some none =
    sym (none_found (λ r. holds c (resource_at c r) m) (is_above_at counts limits) 0 (length counts)
    (λ r from to above. all_clear law c m counts limits r keeps minute same clear (none refl) (omega arith) above))

-- ---- a run of windows, and the quota

some_weaker : {A : Type 0} (o : Option A) (P Q : A → Type 0) → ((x : A) → P x → Q x) → IfSome o P → IfSome o Q
some_weaker None P Q weaker h = tt
some_weaker (Some x) P Q weaker h = weaker x h

pub run_bars : (c : Capacity) (m : Movement) (counts : List ℕ) (limits : List ℤ) (start end first past : ℕ) (lowest : Option ℕ) (b : Bool) → start ≡ first → end ≡ past → b ≡ is_some lowest →
    IsLowest counts limits (λ r. (start ≤ r) × (r < end)) lowest → ((r : ℕ) → first ≤ r → r < past → holds c (resource_at c r) m ≡ true) → IsTrue b → IsBarred c m counts limits
run_bars c m counts limits start end first past None b from to is low held holds_so = cc
run_bars c m counts limits start end first past (Some r) b from to is low held holds_so =
    (r, low.0, low.2, held r (omega (arith, low.1.0, from)) (omega (arith, low.1.1, to)))

pub run_clear : (c : Capacity) (rule ago : ℕ) (m : Movement) (counts : List ℕ) (limits : List ℤ) (start end first past : ℕ) (lowest : Option ℕ) (b : Bool) → start ≡ first → end ≡ past → b ≡ is_some lowest →
    IsLowest counts limits (λ r. (start ≤ r) × (r < end)) lowest → IsHeldRun c rule ago m first past → past ≤ length counts → b ≡ false → IsClearOf c rule ago m counts limits
run_clear c rule ago m counts limits start end first past (Some r) b from to is low run few off = cc
run_clear c rule ago m counts limits start end first past None b from to is low run few off = λ day at begins.
    some_weaker (slice_get c.rules rule)
    (λ (of : Rule). at < starts_of c.step of → ((first ≤ first_of c rule + day * starts_of c.step of + at) × (first_of c rule + day * starts_of c.step of + at < past)) ↔ (holds c (Window of day at) m ≡ true))
    (λ (of : Rule). at < starts_of c.step of → holds c (Window of day at) m ≡ true → is_above_at counts limits (first_of c rule + day * starts_of c.step of + at) ≡ false)
    (λ of h lt held.
    let there = (h lt).1 held in
    low (first_of c rule + day * starts_of c.step of + at) (omega (arith, there.1, few)) (omega (arith, there.0, from), omega (arith, there.1, to)))
    (run day at begins)

-- the quota is the last resource
quota_there_by : (c : Capacity) (night : Option Night) (r : ℕ) → (IsNone (Some r) ↔ IsNone night) → r ≡ sum_by (windows_of c) c.rules → r < sum_by (windows_of c) c.rules + (if is_some night then 1 else 0)
quota_there_by c None r none is = let no : IsNone (Some r) = none.1 refl in cc
quota_there_by c (Some night) r none is = omega (arith, is)

pub quota_there : (c : Capacity) (r : ℕ) → (IsNone (Some r) ↔ IsNone c.night) → r ≡ sum_by (windows_of c) c.rules → r < declared_resources c
quota_there c r none is = quota_there_by c c.night r none is

pub quota_bars : (c : Capacity) (m : Movement) (counts : List ℕ) (limits : List ℤ) (r : ℕ) (b : Bool) → r < length counts → b ≡ holds c (resource_at c r) m && is_above_at counts limits r → IsTrue b → IsBarred c m counts limits
quota_bars c m counts limits r b lt is holds_so =
    let both = and_parts (holds c (resource_at c r) m) (is_above_at counts limits r) (sym is ∙ holds_so) in
    (r, lt, both.1, both.0)

pub quota_clear : (c : Capacity) (m : Movement) (counts : List ℕ) (limits : List ℤ) (r : ℕ) (b : Bool) → r ≡ sum_by (windows_of c) c.rules → b ≡ holds c (resource_at c r) m && is_above_at counts limits r → b ≡ false → IsClearOfQuota c m counts limits
quota_clear c m counts limits r b last is off q number there held =
    let same : q ≡ r = number ∙ sym last in
    let own : holds c (resource_at c r) m ≡ true = subst (λ (k : ℕ). holds c (resource_at c k) m ≡ true) same held in
    let above : is_above_at counts limits r ≡ false =
    elim (and_cases (holds c (resource_at c r) m) (is_above_at counts limits r) (sym is ∙ off)) as (λ w. is_above_at counts limits r ≡ false) [
      | inl free ↦ cc
      | inr not_above ↦ not_above
    ] in
    subst (λ (k : ℕ). is_above_at counts limits k ≡ false) (sym same) above

no_quota_by : (c : Capacity) (night : Option Night) (r : ℕ) → IsNone night → r ≡ sum_by (windows_of c) c.rules → r < sum_by (windows_of c) c.rules + (if is_some night then 1 else 0) → ⊥
no_quota_by c None r none is there = omega (arith, is, there)
no_quota_by c (Some night) r none is there = cc

pub no_quota : (c : Capacity) (m : Movement) (counts : List ℕ) (limits : List ℤ) → IsNone c.night → IsClearOfQuota c m counts limits
no_quota c m counts limits none q number there held = absurd (no_quota_by c c.night q none number there)

-- ---- lines that are clear

pub clear_start : (c : Capacity) (m : Movement) (counts : List ℕ) (limits : List ℤ) → AreClear c 0 m counts limits
clear_start c m counts limits = record { same_day = λ rule lt. absurd (omega arith); day_before = λ rule lt. absurd (omega arith) }

clear_of_more : (c : Capacity) (rules ago : ℕ) (m : Movement) (counts : List ℕ) (limits : List ℤ) → ((rule : ℕ) → rule < rules → IsClearOf c rule ago m counts limits) → IsClearOf c rules ago m counts limits →
    (rule : ℕ) → rule < rules + 1 → IsClearOf c rule ago m counts limits
clear_of_more c rules ago m counts limits before own rule lt =
    elim (cases_lt rule rules) as (λ w. IsClearOf c rule ago m counts limits) [
      | inl below ↦ before rule below
      | inr here ↦ let same : rules ≡ rule = omega arith in subst (λ (k : ℕ). IsClearOf c k ago m counts limits) same own
    ]

pub clear_more : (c : Capacity) (rules : ℕ) (m : Movement) (counts : List ℕ) (limits : List ℤ) → AreClear c rules m counts limits → IsClearOf c rules 0 m counts limits → IsClearOf c rules 1 m counts limits → AreClear c (rules + 1) m counts limits
clear_more c rules m counts limits are zero_ago one_ago = record {
  same_day = clear_of_more c rules 0 m counts limits are.same_day zero_ago;
  day_before = clear_of_more c rules 1 m counts limits are.day_before one_ago;
}

pub clear_all : (c : Capacity) (rules : ℕ) (m : Movement) (counts : List ℕ) (limits : List ℤ) → length c.rules ≤ rules → AreClear c rules m counts limits → AreClear c (length c.rules) m counts limits
clear_all c rules m counts limits le are = record {
  same_day = λ rule lt. are.same_day rule (omega (arith, lt, le));
  day_before = λ rule lt. are.day_before rule (omega (arith, lt, le));
}

-- ---- the movement of a stop

alone : (b : Bool) → b ≡ b || false
alone true = refl
alone false = refl

pub minute_unlisted : (test : Movement → Bool) (season : Term) (m : Movement) → date_count season ≤ m.day → false ≡ list_any test (listed season m)
minute_unlisted test season m past = sym (ap (λ (b : Bool). list_any test (if b then m ∷ [] else [])) (le-ltb m.day (date_count season) past))

pub minute_listed : (test : Movement → Bool) (season : Term) (m : Movement) (b : Bool) → m.day < date_count season → b ≡ test m → b ≡ list_any test (listed season m)
minute_listed test season m b there is =
    is ∙ alone (test m) ∙ ap (λ (t : Bool). list_any test (if t then m ∷ [] else [])) (sym (lt-ltb m.day (date_count season) there))

pub one_of_both : (test : Movement → Bool) (one other : List Movement) → true ≡ list_any test one → true ≡ list_any test (one ++ other)
one_of_both test one other is = sym (list_any-append test one other ∙ or_left (list_any test one) (list_any test other) (sym is))

pub other_of_both : (test : Movement → Bool) (one other : List Movement) (b : Bool) → false ≡ list_any test one → b ≡ list_any test other → b ≡ list_any test (one ++ other)
other_of_both test one other b none is = sym (list_any-append test one other ∙ ap (λ (t : Bool). t || list_any test other) (sym none) ∙ sym is)

pub not_on : (b t : Bool) → false ≡ b → false ≡ b && t
not_on b t is = sym (and_left b t (sym is))

pub also_on : (r b t : Bool) → true ≡ b → r ≡ t → r ≡ b && t
also_on r b t is same = same ∙ ap (λ (k : Bool). k && t) is

-- ---- dates

-- on how many of some days, from one on, a test passes
abbrev pub passing : (ℕ → Bool) → (ℕ → Bool) → ℕ → ℕ → ℕ
passing test on date n = count_by test (filter on (days_from date n))

passing_by : (test on : ℕ → Bool) (date : ℕ) (days : List ℕ) (b t : Bool) → on date ≡ b → test date ≡ t →
    count_by test (cond b (date ∷ days) days) ≡ (if b && t then 1 else 0) + count_by test days
passing_by test on date days true true is passes = sum_by-cons (λ (d : ℕ). cond (test d) 1 0) date days ∙ ap (λ (t : Bool). cond t 1 0 + count_by test days) passes
passing_by test on date days true false is passes = sum_by-cons (λ (d : ℕ). cond (test d) 1 0) date days ∙ ap (λ (t : Bool). cond t 1 0 + count_by test days) passes
passing_by test on date days false t is passes = omega arith

passing_next : (test on : ℕ → Bool) (date n : ℕ) → passing test on date (suc n) ≡ (if on date && test date then 1 else 0) + passing test on (suc date) n
unfolding days_from
passing_next test on date n = passing_by test on date (filter on (days_from (suc date) n)) (on date) (test date) refl refl

pub passing_more : (test on : ℕ → Bool) (date end : ℕ) (b : Bool) → date < end → b ≡ on date && test date →
    passing test on date (end - date) ≡ (if b then 1 else 0) + passing test on (date + 1) (end - (date + 1))
passing_more test on date end b lt is =
    let n : ℕ = end - (date + 1) in
    let long : end - date ≡ suc n = omega arith in
    let next : suc date ≡ date + 1 = omega arith in
    ap (λ (k : ℕ). passing test on date k) long
    ∙ passing_next test on date n
    ∙ ap (λ (t : Bool). (if t then 1 else 0) + passing test on (suc date) n) (sym is)
    ∙ ap (λ (k : ℕ). (if b then 1 else 0) + passing test on k n) next

pub passing_none : (test on : ℕ → Bool) (date end : ℕ) → end ≤ date → passing test on date (end - date) ≡ 0
unfolding days_from
passing_none test on date end past =
    let none : end - date ≡ 0 = omega arith in
    ap (λ (k : ℕ). passing test on date k) none

-- the count so far and the dates that are left
byte_is : (b : Bool) → bool_byte b ≡ (if b then 1 else 0)
byte_is true = refl
byte_is false = refl

pub counted_more : (test on : ℕ → Bool) (date end count more whole : ℕ) (b : Bool) → date < end → b ≡ on date && test date → more ≡ bool_byte b → count + passing test on date (end - date) ≡ whole →
    count + more + passing test on (date + 1) (end - (date + 1)) ≡ whole
counted_more test on date end count more whole b lt is one so_far = omega (arith, passing_more test on date end b lt is, one, byte_is b, so_far)

pub one_at_most : (b : Bool) (more : ℕ) → more ≡ bool_byte b → more ≤ 1
one_at_most true more is = omega (arith, is)
one_at_most false more is = omega (arith, is)
