-- The windows of a rule that hold one movement: a run of the starts of the movement's day, and one of those of the day before.
use Rattle.std.proofs.Common.{◌≡◌, ◌↔◌, ◌⊎◌, ℕ, suc, ◌+◌, ◌-◌, ◌*◌, ◌/◌, ◌%◌, ◌<◌, ◌≤◌, Bool, true, false, ◌&&◌, leb, ltb, refl, sym, ◌∙◌, ap, subst, arith, inl, inr, List, [], ◌∷◌, take, get_or, length, Some}
use Rattle.std.specs.Prelude.{slice_get, sum_by, is_some, if◌then◌else◌}
use Rattle.std.proofs.lemmas.Bool.{false≢true, cases_lt, cases_eq, le-leb, lt-ltb, leb-true, ltb-true, and_left, and_right}
use Rattle.std.proofs.lemmas.Bool.Decides.{nat_tests}
use Rattle.std.proofs.lemmas.Option.{same_Some, slice_get-get_or, slice_get_within, get_or_from_slice_get}
use Rattle.std.proofs.lemmas.Nat.{div_below, mod_below, div-add-mod'}
use Rattle.std.proofs.lemmas.List.Sums.{sum_by-cons}
use Rattle.std.proofs.lemmas.List.Elements.{All-get_or}
use Rattle.season_days.specs.Seasons.{date_count, is_on}
use Rattle.season_days.specs.declared.declaration.Rule.{Rule}
use Rattle.capacity_windows.specs.declared.movement.Movement.{Movement}
use Rattle.capacity_windows.specs.declared.resource.Resource.{Resource}
use Rattle.capacity_windows.specs.declared.resource.Resource.TheVariants.{Window}
use Rattle.capacity_windows.specs.declared.band.Band.{Band}
use Rattle.capacity_windows.specs.Bands.{band_of}
use Rattle.capacity_windows.specs.Windows.{Capacity, IsCapacity, IsRule, declared_resources, starts_of, windows_of, first_of, resource_at, holds, is_of_kind, IsHeldRun, IsWindowAgo}
use Rattle.capacity_windows.proofs.RuleLemmas.{held_start, seen_after}
use Rattle.capacity_windows.proofs.UsesLemmas.{not_held}
use Rattle.capacity_windows.proofs.NumberLemmas.{placed, placed_below, if_some}

both_parts : (a b : Bool) → a && b ≡ true → (a ≡ true) × (b ≡ true)
both_parts true true e = (refl, refl)
both_parts true false e = cc
both_parts false b e = cc

-- a number of a run
in_run : (base low high k : ℕ) (t : Bool) → t ≡ leb low k && ltb k high → ((base + low ≤ base + k) × (base + k < base + high)) ↔ (t ≡ true)
in_run base low high k t is = (
  λ h. is ∙ rw (le-leb low k (omega (arith, h.0)), lt-ltb k high (omega (arith, h.1))) refl,
  λ e.
      let both = both_parts (leb low k) (ltb k high) (sym is ∙ e) in
      let above = leb-true low k both.0 in
      let below = ltb-true k high both.1 in
      (omega (arith, above), omega (arith, below)),
)

-- no number is in an empty run
in_none : (first end r : ℕ) (t : Bool) → end ≤ first → t ≡ false → ((first ≤ r) × (r < end)) ↔ (t ≡ true)
in_none first end r t le off = (λ h. absurd (omega (arith, le, h.0, h.1)), λ e. cc)

off_run : (low high k : ℕ) → high ≤ low → leb low k && ltb k high ≡ false
off_run low high k le = grind (arith, nat_tests)

-- a window of a listed date on which its rule is, of a kind that the rule's windows hold
held : (c : Capacity) (m : Movement) (of : Rule) (first day start ago : ℕ) → 0 < c.step → start < starts_of c.step of → day + ago ≡ m.day → ltb m.day (date_count c.season) ≡ true → is_on c.season of.days day ≡ true → is_of_kind of.kind m.kind ≡ true
    → holds c (Window of day start) m ≡ leb (band_of c.step of first m.minute ago).low start && ltb start (band_of c.step of first m.minute ago).high
held c m of first day start ago some lt is listed on of_kind =
    rw (listed, on, of_kind)
    (seen_after m.day day ago (of.from + start * c.step) of.length m.minute (sym is)
    ∙ sym (held_start of.from c.step of.length (m.minute + 1440 * ago) (starts_of c.step of) start some lt))

-- what is said of one window
abbrev HeldAt : Capacity → ℕ → Movement → ℕ → ℕ → ℕ → ℕ → Rule → Type 0
HeldAt c rule m first end start day of =
    start < starts_of c.step of → ((first ≤ first_of c rule + day * starts_of c.step of + start) × (first_of c rule + day * starts_of c.step of + start < end)) ↔ (holds c (Window of day start) m ≡ true)

-- the run of a band
pub run_held : (c : Capacity) (m : Movement) (rule ago day : ℕ) (of : Rule) (first : ℕ) (band : Band) → slice_get c.rules rule ≡ Some of → 0 < c.step → day + ago ≡ m.day → ltb m.day (date_count c.season) ≡ true → is_on c.season of.days day ≡ true → is_of_kind of.kind m.kind ≡ true
    → first ≡ first_of c rule + day * starts_of c.step of → band ≡ band_of c.step of first m.minute ago → IsHeldRun c rule ago m (first + band.low) (first + band.high)
run_held c m rule ago day of first band at some is listed on of_kind is_first is_band = λ d k is_day.
    let low = band.low in
    let high = band.high in
    let here : HeldAt c rule m (first + low) (first + high) k day of =
    (λ lt.
    let t = holds c (Window of day k) m in
    let test : t ≡ leb low k && ltb k high = held c m of first day k ago some lt is listed on of_kind ∙ ap (λ (b : Band). leb b.low k && ltb k b.high) (sym is_band) in
    subst (λ (r : ℕ). ((first + low ≤ r) × (r < first + high)) ↔ (t ≡ true)) (ap (λ (f : ℕ). f + k) is_first) (in_run first low high k t test)) in
    let same_day : day ≡ d = omega (arith, is, is_day) in
    if_some (slice_get c.rules rule) (HeldAt c rule m (first + low) (first + high) k d) (λ x at_x.
    subst (HeldAt c rule m (first + low) (first + high) k d) (same_Some of x (sym at ∙ at_x)) (subst (λ (e : ℕ). HeldAt c rule m (first + low) (first + high) k e of) same_day here))

-- an empty run, where no window of the day holds the movement
pub none_held : (c : Capacity) (m : Movement) (rule ago first end : ℕ) → end ≤ first → ((of : Rule) (day start : ℕ) → slice_get c.rules rule ≡ Some of → start < starts_of c.step of → day + ago ≡ m.day → holds c (Window of day start) m ≡ false) → IsHeldRun c rule ago m first end
none_held c m rule ago first end le off = λ d k is_day.
    if_some (slice_get c.rules rule) (HeldAt c rule m first end k d) (λ x at_x lt. in_none first end (first_of c rule + d * starts_of c.step x + k) (holds c (Window x d k) m) le (off x d k at_x lt is_day))

-- why none does
pub unlisted_none : (c : Capacity) (m : Movement) (rule ago first end : ℕ) → end ≤ first → ltb m.day (date_count c.season) ≡ false → IsHeldRun c rule ago m first end
unlisted_none c m rule ago first end le off = none_held c m rule ago first end le (λ of day start _ _ _. and_left (ltb m.day (date_count c.season)) _ off)

pub early_none : (c : Capacity) (m : Movement) (rule ago first end : ℕ) → end ≤ first → m.day < ago → IsHeldRun c rule ago m first end
early_none c m rule ago first end le early = none_held c m rule ago first end le (λ of day start _ _ is. absurd (omega (arith, early, is)))

pub kind_none : (c : Capacity) (m : Movement) (rule ago first end : ℕ) (of : Rule) → end ≤ first → slice_get c.rules rule ≡ Some of → is_of_kind of.kind m.kind ≡ false → IsHeldRun c rule ago m first end
kind_none c m rule ago first end of le at off = none_held c m rule ago first end le (λ x day start at_x _ _.
    and_right (ltb m.day (date_count c.season)) _ (and_right (is_on c.season x.days day) _ (and_left (is_of_kind x.kind m.kind) _ (ap (λ (y : Rule). is_of_kind y.kind m.kind) (sym (same_Some of x (sym at ∙ at_x))) ∙ off))))

pub day_none : (c : Capacity) (m : Movement) (rule ago first end day : ℕ) (of : Rule) → end ≤ first → slice_get c.rules rule ≡ Some of → day + ago ≡ m.day → is_on c.season of.days day ≡ false → IsHeldRun c rule ago m first end
day_none c m rule ago first end day of le at is off = none_held c m rule ago first end le (λ x d start at_x _ is_d.
    let same_day : d ≡ day = omega (arith, is, is_d) in
    and_right (ltb m.day (date_count c.season)) _ (and_left (is_on c.season x.days d) _ (ap (λ (y : Rule). is_on c.season y.days d) (sym (same_Some of x (sym at ∙ at_x))) ∙ ap (is_on c.season of.days) same_day ∙ off)))

-- a band without starts
pub band_none : (c : Capacity) (m : Movement) (rule ago day : ℕ) (of : Rule) (first : ℕ) (band : Band) → slice_get c.rules rule ≡ Some of → 0 < c.step → day + ago ≡ m.day → ltb m.day (date_count c.season) ≡ true → is_on c.season of.days day ≡ true → is_of_kind of.kind m.kind ≡ true
    → first ≡ first_of c rule + day * starts_of c.step of → band ≡ band_of c.step of first m.minute ago → band.high ≤ band.low → IsHeldRun c rule ago m 0 0
band_none c m rule ago day of first band at some is listed on of_kind is_first is_band none =
    none_held c m rule ago 0 0 (omega arith) (λ x d k at_x lt is_d.
    let same_day : d ≡ day = omega (arith, is, is_d) in
    let same : of ≡ x = same_Some of x (sym at ∙ at_x) in
    let lt' : k < starts_of c.step of = subst (λ (y : Rule). k < starts_of c.step y) (sym same) lt in
    ap (λ (y : Rule). holds c (Window y d k) m) (sym same)
    ∙ ap (λ (e : ℕ). holds c (Window of e k) m) same_day
    ∙ held c m of first day k ago some lt' is listed on of_kind
    ∙ ap (λ (b : Band). leb b.low k && ltb k b.high) (sym is_band)
    ∙ off_run band.low band.high k none)

-- the run lies among the windows
pub run_there : (c : Capacity) (m : Movement) (rule ago day : ℕ) (of : Rule) (first : ℕ) (band : Band) → slice_get c.rules rule ≡ Some of → day < date_count c.season → first ≡ first_of c rule + day * starts_of c.step of → band ≡ band_of c.step of first m.minute ago → band.low < band.high
    → first + band.high ≤ declared_resources c
run_there c m rule ago day of first band at in_season is_first is_band some =
    let few = ap (λ (b : Band). b.high) is_band in
    let below = placed_below c c.rules rule of day (band.high - 1) at in_season (omega (arith, few, some)) in
    omega (arith, is_first, below, some)

-- each number of the run holds the movement
pub run_holds : (c : Capacity) (m : Movement) (rule ago day : ℕ) (of : Rule) (first : ℕ) (band : Band) → slice_get c.rules rule ≡ Some of → 0 < c.step → day < date_count c.season → day + ago ≡ m.day → ltb m.day (date_count c.season) ≡ true → is_on c.season of.days day ≡ true → is_of_kind of.kind m.kind ≡ true
    → first ≡ first_of c rule + day * starts_of c.step of → band ≡ band_of c.step of first m.minute ago → (r : ℕ) → first + band.low ≤ r → r < first + band.high → holds c (resource_at c r) m ≡ true
run_holds c m rule ago day of first band at some in_season is listed on of_kind is_first is_band r from to =
    let start = r - first in
    let few = ap (λ (b : Band). b.high) is_band in
    let inside : start < starts_of c.step of = omega (arith, few, from, to) in
    let number : r ≡ first_of c rule + day * starts_of c.step of + start = omega (arith, is_first, from) in
    ap (λ (k : ℕ). holds c (resource_at c k) m) number
    ∙ ap (λ (q : Resource). holds c q m) (placed c c.rules rule of day start at in_season inside)
    ∙ held c m of first day start ago some inside is listed on of_kind
    ∙ ap (λ (b : Band). leb b.low start && ltb start b.high) (sym is_band)
    ∙ rw (le-leb band.low start (omega (arith, from)), lt-ltb start band.high (omega (arith, from, to))) refl

-- a rule that was read
pub read_rule : (xs ys : List Rule) (i : ℕ) (d : Rule) → xs ≡ ys → i < length ys → slice_get ys i ≡ Some (get_or xs i d)
read_rule xs ys i d same lt = ap (λ (zs : List Rule). slice_get zs i) (sym same) ∙ slice_get-get_or xs i d (subst (λ (zs : List Rule). i < length zs) (sym same) lt)

-- each number of a window has its rule, day and start
abbrev Stands : Capacity → List Rule → ℕ → Type 0
Stands c rules r =
    (i day start : ℕ) × (of : Rule) × (slice_get rules i ≡ Some of) × (day < date_count c.season) × (start < starts_of c.step of) × (r ≡ sum_by (windows_of c) (take i rules) + day * starts_of c.step of + start)

stands : (c : Capacity) (rules : List Rule) (r : ℕ) → r < sum_by (windows_of c) rules → Stands c rules r
stands c [] r lt = absurd (omega (arith, lt))
stands c (x ∷ rules) r lt =
    let n = starts_of c.step x in
    let size = windows_of c x in
    elim (cases_lt r size) [
      | inl here ↦ (0, r / n, r % n, x, refl, div_below r n (date_count c.season) (omega arith) here, mod_below r n (omega arith), omega (arith, div-add-mod' r n))
      | inr later ↦
          let total = sum_by-cons (windows_of c) x rules in
          let rest = stands c rules (r - size) (omega (arith, total, lt, later)) in
          let i = rest.0 in
          let before = sum_by-cons (windows_of c) x (take i rules) in
          (suc i, rest.1, rest.2, rest.3, rest.4, rest.5, rest.6, omega (arith, before, later, rest.7))
    ]

one_more : (b : Bool) → (if b then 1 else 0) ≤ 1
one_more true = omega arith
one_more false = omega arith

-- what holds a movement
pub held_number : (c : Capacity) (m : Movement) (r : ℕ) → IsCapacity c → m.minute < 1440 → r < declared_resources c → holds c (resource_at c r) m ≡ true
    → (r ≡ sum_by (windows_of c) c.rules) ⊎ ((rule ago day start : ℕ) × (of : Rule) × IsWindowAgo c m r rule ago day start of)
held_number c m r limits in_day lt held_there =
    elim (cases_lt r (sum_by (windows_of c) c.rules)) [
      | inr past ↦ inl (let one = one_more (is_some c.night) in omega (arith, past, lt, one))
      | inl below ↦
          let at = stands c c.rules r below in
          let rule = at.0 in
          let day = at.1 in
          let start = at.2 in
          let of = at.3 in
          let line : slice_get c.rules rule ≡ Some of = at.4 in
          let in_season : day < date_count c.season = at.5 in
          let inside : start < starts_of c.step of = at.6 in
          let number : r ≡ first_of c rule + day * starts_of c.step of + start = at.7 in
          let window : resource_at c r ≡ Window of day start = ap (resource_at c) number ∙ placed c c.rules rule of day start line in_season inside in
          elim (cases_eq m.day day) [
            | inl same ↦ inr (rule, 0, day, start, of, record { line = line; near = omega arith; begins = omega (arith, same); column = inside; number = number; window = window })
            | inr other ↦
                elim (cases_eq m.day (day + 1)) [
                  | inl same ↦ inr (rule, 1, day, start, of, record { line = line; near = omega arith; begins = omega (arith, same); column = inside; number = number; window = window })
                  | inr later ↦
                      let off : holds c (resource_at c r) m ≡ false = not_held c m rule of day start r limits.step (subst IsRule (get_or_from_slice_get c.rules rule of of line) (All-get_or IsRule c.rules rule of (slice_get_within c.rules rule of line) limits.rules)) line in_season inside in_day other later number in
                      absurd (false≢true (sym off ∙ held_there))
                ]
          ]
    ]
