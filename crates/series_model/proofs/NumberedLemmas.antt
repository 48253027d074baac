-- Elements of lists by their numbers, and whether times are among the shifts of a line.
use Rattle.std.proofs.Common.{◌≡◌, ◌⊎◌, ℕ, zero, suc, ◌+◌, ◌-◌, ◌*◌, ◌/◌, ◌%◌, ◌<◌, ◌≤◌, max, Bool, true, false, ◌&&◌, ◌||◌, List, [], ◌∷◌, ◌++◌, map, Some, None, refl, sym, ap, ◌∙◌, arith, inl, inr}
use Rattle.std.specs.Prelude.{Option, Ok, Err, IfSome, slice_get, ◌==◌}
use Rattle.std.specs.List.{list_any, cons_option, flat_map}
use Rattle.std.specs.Option.{option_map}
use Rattle.std.proofs.lemmas.List.{append-nil}
use Rattle.std.proofs.lemmas.Bool.{cases_lt}
use Rattle.std.proofs.lemmas.Nat.{mod_below, div-add-mod', mul-le}
use Rattle.std.proofs.Math.Nat.{mod-add-mod, mod-eq_of_lt, mod_self, add-mod_right, suc-mul}
use Rattle.season_days.specs.declared.declaration.Declaration.{Declaration}
use Rattle.scr_reader.specs.declared.line.Line.{Line}
use Rattle.series_model.specs.declared.group.Group.TheVariants.{F}
use Rattle.series_model.specs.declared.unit.Unit.{Unit as SlotUnit}
use Rattle.series_model.specs.declared.shifts.Shifts.{Shifts}
use Rattle.series_model.specs.declared.times.Times.{Times}
use Rattle.series_model.specs.declared.times.Times.TheVariants.{Refused, At}
use Rattle.series_model.specs.Options.{line_times, are_same, pairs_at, with_times, with_refused, either_options, options_by, options_of}
use Rattle.series_model.specs.Loops.{shifts_from, all_shifts, AreShifts, IsShiftOf, numbered}
use Rattle.series_model.proofs.OptionLemmas.{late_pairs}
use Rattle.series_model.proofs.SpanLemmas.{IsGap, first_shift, no_shift, far_shift}

-- ---- lists one after the other

pub numbered-found : {X : Type 0} (xs ys : List X) (n : ℕ) (x : X) → numbered xs n ≡ Ok x → numbered (xs ++ ys) n ≡ Ok x
numbered-found [] ys n x is = absurd cc
numbered-found (y ∷ xs) ys zero x is = is
numbered-found (y ∷ xs) ys (suc n) x is = numbered-found xs ys n x is

pub numbered-past : {X : Type 0} (xs ys : List X) (n k : ℕ) → numbered xs n ≡ Err k → numbered (xs ++ ys) n ≡ numbered ys k
numbered-past [] ys n k is = let e : n ≡ k = cc in ap (λ (m : ℕ). numbered ys m) e
numbered-past (y ∷ xs) ys zero k is = absurd cc
numbered-past (y ∷ xs) ys (suc n) k is = numbered-past xs ys n k is

pub mapped-found : {X Y : Type 0} (f : X → Y) (xs : List X) (n : ℕ) (x : X) → numbered xs n ≡ Ok x → numbered (map f xs) n ≡ Ok (f x)
mapped-found f [] n x is = absurd cc
mapped-found f (y ∷ xs) zero x is = let e : y ≡ x = cc in ap (λ z. Ok (f z)) e
mapped-found f (y ∷ xs) (suc n) x is = mapped-found f xs n x is

pub mapped-past : {X Y : Type 0} (f : X → Y) (xs : List X) (n k : ℕ) → numbered xs n ≡ Err k → numbered (map f xs) n ≡ Err k
mapped-past f [] n k is = let e : n ≡ k = cc in ap (λ m. Err m) e
mapped-past f (y ∷ xs) zero k is = absurd cc
mapped-past f (y ∷ xs) (suc n) k is = mapped-past f xs n k is

-- with one element more, or none
pub last-found : {X : Type 0} (xs ys : List X) (n : ℕ) (x : X) → Ok x ≡ numbered xs n → Some x ≡ slice_get (xs ++ ys) n
last-found [] ys n x is = absurd cc
last-found (y ∷ xs) ys zero x is = let e : x ≡ y = cc in ap (λ z. Some z) e
last-found (y ∷ xs) ys (suc n) x is = last-found xs ys n x is

pub last-past : {X : Type 0} (xs ys : List X) (n k : ℕ) → Err k ≡ numbered xs n → slice_get ys k ≡ slice_get (xs ++ ys) n
last-past [] ys n k is = let e : k ≡ n = cc in ap (λ (m : ℕ). slice_get ys m) e
last-past (y ∷ xs) ys zero k is = absurd cc
last-past (y ∷ xs) ys (suc n) k is = last-past xs ys n k is

pub only-first : {X : Type 0} (last : Option X) (k : ℕ) → k ≡ 0 → last ≡ slice_get (cons_option last []) k
only-first None k none = refl
only-first (Some x) k none = sym (ap (λ (n : ℕ). slice_get (x ∷ []) n) none)

pub only-later : {X : Type 0} (last : Option X) (k : ℕ) → 0 < k → None ≡ slice_get (cons_option last []) k
only-later None k some = refl
only-later (Some x) zero some = absurd (omega arith)
only-later (Some x) (suc k) some = refl

pub one-first : {X : Type 0} (x : X) (n : ℕ) → n ≡ 0 → Ok x ≡ numbered (x ∷ []) n
one-first x n is = sym (ap (λ (k : ℕ). numbered (x ∷ []) k) is)

pub one-past : {X : Type 0} (x : X) (n : ℕ) → 0 < n → Err (n - 1) ≡ numbered (x ∷ []) n
one-past x zero some = absurd (omega arith)
one-past x (suc n) some = let e : suc n - 1 ≡ n = omega arith in ap (λ k. Err k) e

-- ---- shifts a step apart

step_on : (s m r : ℕ) → 0 < s → m % s ≡ r → ((m + 1) % s + (s - 1) ≡ r) ⊎ ((m + 1) % s + (s - 1) ≡ r + s)
step_on s m r pos is =
    let few = mod_below m s pos in
    let same = mod-add-mod m s 1 in
    elim (cases_lt (m % s + 1) s) [
      | inl below ↦ let e : (m % s + 1) % s ≡ m % s + 1 = mod-eq_of_lt below in inr (omega (arith, e, same, is, pos))
      | inr over ↦
          let one : m % s + 1 ≡ s = omega (arith, few, over) in
          let e : (m % s + 1) % s ≡ 0 = ap (λ (k : ℕ). k % s) one ∙ mod_self s in
          inl (omega (arith, e, same, is, one))
    ]

-- nothing is a shift that is later than this
abbrev pub IsLast : Shifts → ℕ → Type 0
IsLast s last = (k : ℕ) → k ≤ s.high → k ≤ s.requested + s.flex → k ≤ last

next_shift : (s : Shifts) (m last : ℕ) → AreShifts s → IsShiftOf s m → last ≤ s.high → last ≤ s.requested + s.flex → m + s.step ≤ last → shifts_from s (m + 1) ≡ (m + s.step) ∷ shifts_from s (m + s.step + 1)
next_shift s m last is shift high late near =
    let gap : IsGap s (m + 1) (s.step - 1) = step_on s.step m (s.requested % s.step) is.step shift.rest in
    let e : m + 1 + (s.step - 1) ≡ m + s.step = omega (arith, is.step) in
    let found = first_shift s (m + 1) (m + 1) last (s.step - 1) is (omega (arith, shift.early)) high late (omega (arith, near, is.step)) gap (omega (arith, is.step)) (omega (arith, near, is.step)) in
    found ∙ ap (λ (k : ℕ). k ∷ shifts_from s (k + 1)) e

last_shift : (s : Shifts) (m last : ℕ) → AreShifts s → IsShiftOf s m → IsLast s last → last < m + s.step → shifts_from s (m + 1) ≡ []
last_shift s m last is shift most far =
    let gap : IsGap s (m + 1) (s.step - 1) = step_on s.step m (s.requested % s.step) is.step shift.rest in
    elim (cases_lt last (m + 1)) [
      | inl none ↦ no_shift s (m + 1) (m + 1) last (omega (arith, shift.early)) most none
      | inr some ↦ far_shift s (m + 1) (m + 1) last (s.step - 1) is (omega (arith, shift.early)) most some gap (omega (arith, is.step)) (omega (arith, far, some, is.step))
    ]

step_shift : (s : Shifts) (m last : ℕ) → AreShifts s → IsShiftOf s m → last ≤ s.requested + s.flex → m + s.step ≤ last → IsShiftOf s (m + s.step)
step_shift s m last is shift late near = record {
  rest = add-mod_right m s.step ∙ shift.rest;
  early = omega (arith, shift.early);
  late = omega (arith, late, near);
}

pub shift-found : (s : Shifts) (last n m : ℕ) → AreShifts s → IsShiftOf s m → last ≤ s.high → last ≤ s.requested + s.flex → m + n * s.step ≤ last → numbered (m ∷ shifts_from s (m + 1)) n ≡ Ok (m + n * s.step)
shift-found s last zero m is shift high late near = let e : m + 0 * s.step ≡ m = omega arith in ap (λ k. Ok k) (sym e)
shift-found s last (suc n) m is shift high late near =
    let k : suc n * s.step ≡ n * s.step + s.step = suc-mul n s.step in
    let e : m + suc n * s.step ≡ m + s.step + n * s.step = omega (arith, k) in
    let there : m + s.step ≤ last = omega (arith, e, near) in
    let on = shift-found s last n (m + s.step) is (step_shift s m last is shift late there) high late (omega (arith, e, near)) in
    ap (λ (xs : List ℕ). numbered xs n) (next_shift s m last is shift high late there) ∙ on ∙ ap (λ k. Ok k) (sym e)

pub shift-past : (s : Shifts) (last q k m : ℕ) → AreShifts s → IsShiftOf s m → last ≤ s.high → last ≤ s.requested + s.flex → IsLast s last → m + q * s.step ≤ last → last < m + q * s.step + s.step → numbered (m ∷ shifts_from s (m + 1)) (suc (q + k)) ≡ Err k
shift-past s last zero k m is shift high late most near far =
    let none = last_shift s m last is shift most (omega (arith, far)) in
    let e : suc (0 + k) ≡ suc k = omega arith in
    ap (λ (n : ℕ). numbered (m ∷ shifts_from s (m + 1)) n) e ∙ ap (λ (xs : List ℕ). numbered xs k) none
shift-past s last (suc q) k m is shift high late most near far =
    let one : suc q * s.step ≡ q * s.step + s.step = suc-mul q s.step in
    let e : m + suc q * s.step ≡ m + s.step + q * s.step = omega (arith, one) in
    let there : m + s.step ≤ last = omega (arith, e, near) in
    let on = shift-past s last q k (m + s.step) is (step_shift s m last is shift late there) high late most (omega (arith, e, near)) (omega (arith, e, far)) in
    let n : suc (suc q + k) ≡ suc (suc (q + k)) = omega arith in
    ap (λ (i : ℕ). numbered (m ∷ shifts_from s (m + 1)) i) n ∙ ap (λ (xs : List ℕ). numbered xs (suc (q + k))) (next_shift s m last is shift high late there) ∙ on

-- ---- whether times are there

pub any-append : {X : Type 0} (p : X → Bool) (xs ys : List X) → list_any p (xs ++ ys) ≡ list_any p xs || list_any p ys
any-append p [] ys = refl
any-append p (x ∷ xs) ys = elim (p x) as (λ b. b || list_any p (xs ++ ys) ≡ (b || list_any p xs) || list_any p ys) [ true ↦ refl | false ↦ any-append p xs ys ]

and_any : (b c : Bool) (rest : Bool) (t : Bool) → t ≡ b && c → t || (b && rest) ≡ b && (c || rest)
and_any true c rest t is = ap (λ x. x || rest) is
and_any false c rest t is = ap (λ x. x || false) is

comm_and : (a b : Bool) → a && b ≡ b && a
comm_and true true = refl
comm_and true false = refl
comm_and false true = refl
comm_and false false = refl

no_and : (b : Bool) → false ≡ b && false
no_and true = refl
no_and false = refl

pub any-departures : (arrival departure other : ℕ) (ys : List ℕ) → list_any (are_same (At arrival departure)) (map (λ y. At other y) ys) ≡ (arrival == other) && list_any (λ y. departure == y) ys
any-departures arrival departure other [] = no_and (arrival == other)
any-departures arrival departure other (y ∷ ys) =
    ap (λ b. are_same (At arrival departure) (At other y) || b) (any-departures arrival departure other ys)
    ∙ and_any (arrival == other) (departure == y) (list_any (λ z. departure == z) ys) (are_same (At arrival departure) (At other y)) refl

pub any-arrivals : (arrival departure other : ℕ) (xs : List ℕ) → list_any (are_same (At arrival departure)) (map (λ x. At x other) xs) ≡ (departure == other) && list_any (λ x. arrival == x) xs
any-arrivals arrival departure other [] = no_and (departure == other)
any-arrivals arrival departure other (x ∷ xs) =
    ap (λ b. are_same (At arrival departure) (At x other) || b) (any-arrivals arrival departure other xs)
    ∙ and_any (departure == other) (arrival == x) (list_any (λ z. arrival == z) xs) (are_same (At arrival departure) (At x other)) (comm_and (arrival == x) (departure == other))

-- ---- what the code has found

quotient-fits : (step a n : ℕ) → n ≤ a / step → n * step ≤ a
quotient-fits step a n le =
    let whole = div-add-mod' a step in
    let some = mul-le n step (a / step) step le (omega arith) in
    omega (arith, whole, some)

quotient-far : (step a : ℕ) → 0 < step → a < a / step * step + step
quotient-far step a pos =
    let whole = div-add-mod' a step in
    let few = mod_below a step pos in
    omega (arith, whole, few)

pub nth-fits : (s : Shifts) (first last n : ℕ) → IsShiftOf s first → first ≤ s.high → IsLast s last → n ≤ (last - first) / s.step → first + n * s.step ≤ last
nth-fits s first last n shift there most le =
    let within = most first there shift.late in
    let some = quotient-fits s.step (last - first) n le in
    omega (arith, within, some)

pub nth-found : (s : Shifts) (from first last n : ℕ) → AreShifts s → shifts_from s from ≡ first ∷ shifts_from s (first + 1) → IsShiftOf s first → first ≤ s.high → last ≤ s.high → last ≤ s.requested + s.flex → IsLast s last
    → n ≤ (last - first) / s.step → Ok (first + n * s.step) ≡ numbered (shifts_from s from) n
nth-found s from first last n is found shift there high late most le =
    sym (ap (λ (xs : List ℕ). numbered xs n) found ∙ shift-found s last n first is shift high late (nth-fits s first last n shift there most le))

pub nth-past : (s : Shifts) (from first last n : ℕ) → AreShifts s → shifts_from s from ≡ first ∷ shifts_from s (first + 1) → IsShiftOf s first → first ≤ s.high → last ≤ s.high → last ≤ s.requested + s.flex → IsLast s last
    → (last - first) / s.step < n → Err (n - 1 - (last - first) / s.step) ≡ numbered (shifts_from s from) n
nth-past s from first last n is found shift there high late most lt =
    let q = (last - first) / s.step in
    let within = most first there shift.late in
    let some = quotient-fits s.step (last - first) q (omega arith) in
    let far = quotient-far s.step (last - first) is.step in
    let e : n ≡ suc (q + (n - 1 - q)) = omega (arith, lt) in
    sym (ap (λ (xs : List ℕ). numbered xs n) found ∙ ap (λ (k : ℕ). numbered (first ∷ shifts_from s (first + 1)) k) e
    ∙ shift-past s last q (n - 1 - q) first is shift high late most (omega (arith, within, some)) (omega (arith, within, far)))

-- pairs of the first of some arrivals, and those after it
pairs-first : (arrivals departures : Shifts) (least from arrival first : ℕ) → shifts_from arrivals from ≡ arrival ∷ shifts_from arrivals (arrival + 1) → first ≡ max departures.low (arrival + least)
    → flat_map (pairs_at least (all_shifts departures)) (shifts_from arrivals from) ≡ map (λ departure. At arrival departure) (shifts_from departures first) ++ flat_map (pairs_at least (all_shifts departures)) (shifts_from arrivals (arrival + 1))
pairs-first arrivals departures least from arrival first found is =
    let f = pairs_at least (all_shifts departures) in
    ap (λ (xs : List ℕ). flat_map f xs) found ∙ ap (λ (xs : List Times). xs ++ flat_map f (shifts_from arrivals (arrival + 1))) (sym (late_pairs departures arrival least first is))

pub pair-found : (arrivals departures : Shifts) (least from arrival first n departure : ℕ) → shifts_from arrivals from ≡ arrival ∷ shifts_from arrivals (arrival + 1) → first ≡ max departures.low (arrival + least)
    → Ok departure ≡ numbered (shifts_from departures first) n → Ok (At arrival departure) ≡ numbered (flat_map (pairs_at least (all_shifts departures)) (shifts_from arrivals from)) n
pair-found arrivals departures least from arrival first n departure found is here =
    let f = pairs_at least (all_shifts departures) in
    sym (ap (λ (xs : List Times). numbered xs n) (pairs-first arrivals departures least from arrival first found is)
    ∙ numbered-found (map (λ y. At arrival y) (shifts_from departures first)) (flat_map f (shifts_from arrivals (arrival + 1))) n (At arrival departure) (mapped-found (λ y. At arrival y) (shifts_from departures first) n departure (sym here)))

pub pair-past : (arrivals departures : Shifts) (least from arrival first n more : ℕ) → shifts_from arrivals from ≡ arrival ∷ shifts_from arrivals (arrival + 1) → first ≡ max departures.low (arrival + least)
    → Err more ≡ numbered (shifts_from departures first) n → numbered (flat_map (pairs_at least (all_shifts departures)) (shifts_from arrivals (arrival + 1))) more ≡ numbered (flat_map (pairs_at least (all_shifts departures)) (shifts_from arrivals from)) n
pair-past arrivals departures least from arrival first n more found is past =
    let f = pairs_at least (all_shifts departures) in
    sym (ap (λ (xs : List Times). numbered xs n) (pairs-first arrivals departures least from arrival first found is)
    ∙ numbered-past (map (λ y. At arrival y) (shifts_from departures first)) (flat_map f (shifts_from arrivals (arrival + 1))) n more (mapped-past (λ y. At arrival y) (shifts_from departures first) n more (sym past)))

pub pair-any : (arrivals departures : Shifts) (least from other first arrival departure : ℕ) (here : Bool) → shifts_from arrivals from ≡ other ∷ shifts_from arrivals (other + 1) → first ≡ max departures.low (other + least)
    → here ≡ (arrival == other) && list_any (λ y. departure == y) (shifts_from departures first)
    → list_any (are_same (At arrival departure)) (flat_map (pairs_at least (all_shifts departures)) (shifts_from arrivals from))
    ≡ here || list_any (are_same (At arrival departure)) (flat_map (pairs_at least (all_shifts departures)) (shifts_from arrivals (other + 1)))
pair-any arrivals departures least from other first arrival departure here found is among =
    let f = pairs_at least (all_shifts departures) in
    let t = are_same (At arrival departure) in
    ap (λ (xs : List Times). list_any t xs) (pairs-first arrivals departures least from other first found is)
    ∙ any-append t (map (λ y. At other y) (shifts_from departures first)) (flat_map f (shifts_from arrivals (other + 1)))
    ∙ ap (λ b. b || list_any t (flat_map f (shifts_from arrivals (other + 1)))) (any-departures arrival departure other (shifts_from departures first) ∙ sym among)

pub any-here : (here rest : Bool) → here ≡ true → true ≡ here || rest
any-here here rest is = sym (ap (λ b. b || rest) is)

pub any-next : (here rest : Bool) → here ≡ false → rest ≡ here || rest
any-next here rest is = sym (ap (λ b. b || rest) is)

-- ---- one more at the end

pub refused-last : (price : Option ℕ) (last : Option Times) (options : List Times) → last ≡ option_map (λ (p : ℕ). Refused) price → options ++ cons_option last [] ≡ with_refused options price
refused-last None last options is = rw is (append-nil options)
refused-last (Some price) last options is = rw is refl

pub missing-last : (options : List Times) (times : Times) (there : Bool) (last : Option Times) → there ≡ list_any (are_same times) options → (there ≡ true → last ≡ None) → (there ≡ false → last ≡ Some times)
    → options ++ cons_option last [] ≡ with_times options times
missing-last options times true last is none some = rw (none refl, sym is) (append-nil options)
missing-last options times false last is none some = rw (some refl, sym is) refl

pub either-made : (request : Line) (historic : Option Line) (requested : Times) (last : Option Times) → requested ≡ line_times request → (historic ≡ None → last ≡ None)
    → IfSome historic (λ line. (requested ∷ []) ++ cons_option last [] ≡ with_times (requested ∷ []) (line_times line)) → (requested ∷ []) ++ cons_option last [] ≡ either_options request historic
either-made request None requested last is none some = ap (λ (o : Option Times). (requested ∷ []) ++ cons_option o []) (none refl) ∙ ap (λ (t : Times). t ∷ []) is
either-made request (Some line) requested last is none some = some ∙ ap (λ (t : Times). with_times (t ∷ []) (line_times line)) is

pub only-made : (d : Declaration) (unit : SlotUnit) (times : Times) → unit.group ≡ F → times ≡ line_times unit.request → (times ∷ []) ++ cons_option None [] ≡ options_of d unit
only-made d unit times is times_is = ap (λ (t : Times). t ∷ []) times_is ∙ sym (ap (options_by d unit.request unit.historic) is)
