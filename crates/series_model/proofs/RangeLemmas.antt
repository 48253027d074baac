-- Filtered runs of numbers: where a filter begins, where it ends, and filters one after another.
use Rattle.std.proofs.Common.{◌≡◌, ℕ, zero, suc, ◌+◌, ◌-◌, ◌<◌, ◌≤◌, Bool, true, false, ◌&&◌, cond, List, [], ◌∷◌, ◌++◌, map, refl, sym, ap, ◌∙◌, arith, inl, inr}
use Rattle.std.specs.List.{filter, flat_map, range_with_len}
use Rattle.std.proofs.lemmas.Bool.{cases_Bool}
use Rattle.std.proofs.lemmas.List.{append_assoc, append-nil}

-- numbers that fail at the beginning
pub filter-range_skip : (p : ℕ → Bool) (a m n : ℕ) → m ≤ n → ((x : ℕ) → a ≤ x → x < a + m → p x ≡ false) → filter p (range_with_len a n) ≡ filter p (range_with_len (a + m) (n - m))
filter-range_skip p a zero n le none =
    let e : a + 0 ≡ a = omega arith in
    let k : n - 0 ≡ n = omega arith in
    rw (e, k) refl
filter-range_skip p a (suc m) zero le none = absurd (omega arith)
filter-range_skip p a (suc m) (suc n) le none =
    let here : p a ≡ false = none a (omega arith) (omega arith) in
    let rest = filter-range_skip p (a + 1) m n (omega arith) (λ x l k. none x (omega arith) (omega arith)) in
    let e : a + suc m ≡ a + 1 + m = omega arith in
    let k : suc n - suc m ≡ n - m = omega arith in
    rw (here, e, k) rest

-- all fail
pub filter-range_none : (p : ℕ → Bool) (a n : ℕ) → ((x : ℕ) → a ≤ x → x < a + n → p x ≡ false) → filter p (range_with_len a n) ≡ []
filter-range_none p a zero none = refl
filter-range_none p a (suc n) none =
    let here : p a ≡ false = none a (omega arith) (omega arith) in
    rw here (filter-range_none p (a + 1) n (λ x l k. none x (omega arith) (omega arith)))

-- those of a second part fail
pub filter-range_cut : (p : ℕ → Bool) (a m n : ℕ) → m ≤ n → ((x : ℕ) → a + m ≤ x → x < a + n → p x ≡ false) → filter p (range_with_len a n) ≡ filter p (range_with_len a m)
filter-range_cut p a zero n le none = filter-range_none p a n (λ x l k. none x (omega arith) k)
filter-range_cut p a (suc m) zero le none = absurd (omega arith)
filter-range_cut p a (suc m) (suc n) le none =
    let rest = filter-range_cut p (a + 1) m n (omega arith) (λ x l k. none x (omega arith) (omega arith)) in
    ap (λ (xs : List ℕ). cond (p a) (a ∷ xs) xs) rest

-- tests that agree on the numbers
pub filter-range_same : (p q : ℕ → Bool) (a n : ℕ) → ((x : ℕ) → a ≤ x → x < a + n → p x ≡ q x) → filter p (range_with_len a n) ≡ filter q (range_with_len a n)
filter-range_same p q a zero same = refl
filter-range_same p q a (suc n) same =
    let here : p a ≡ q a = same a (omega arith) (omega arith) in
    let rest = filter-range_same p q (a + 1) n (λ x l k. same x (omega arith) (omega arith)) in
    rw (here, rest) refl

-- the first that passes
pub filter-range_first : (p : ℕ → Bool) (from at end : ℕ) → from ≤ at → at < end → ((x : ℕ) → from ≤ x → x < at → p x ≡ false) → p at ≡ true
    → filter p (range_with_len from (end - from)) ≡ at ∷ filter p (range_with_len (at + 1) (end - (at + 1)))
filter-range_first p from at end le lt none is =
    let skipped = filter-range_skip p from (at - from) (end - from) (omega arith) (λ x l k. none x l (omega arith)) in
    let e : from + (at - from) ≡ at = omega arith in
    let k : end - from - (at - from) ≡ suc (end - (at + 1)) = omega arith in
    let there : filter p (range_with_len from (end - from)) ≡ filter p (range_with_len at (suc (end - (at + 1)))) = rw (e, k) at skipped in
    let first : filter p (range_with_len at (suc (end - (at + 1)))) ≡ at ∷ filter p (range_with_len (at + 1) (end - (at + 1))) = rw is refl in
    there ∙ first

-- two filters
pub filter-filter : {X : Type 0} (q p : X → Bool) (xs : List X) → filter q (filter p xs) ≡ filter (λ x. p x && q x) xs
filter-filter q p [] = refl
filter-filter q p (x ∷ xs) =
    elim (cases_Bool (p x)) [
      | inl yes_p ↦ rw yes_p (ap (λ ys. cond (q x) (x ∷ ys) ys) (filter-filter q p xs))
      | inr no_p ↦ rw no_p (filter-filter q p xs)
    ]

pub filter-map : {X Y : Type 0} (q : Y → Bool) (f : X → Y) (xs : List X) → filter q (map f xs) ≡ map f (filter (λ x. q (f x)) xs)
filter-map q f [] = refl
filter-map q f (x ∷ xs) =
    elim (cases_Bool (q (f x))) [
      | inl passes ↦ rw passes (ap (λ ys. f x ∷ ys) (filter-map q f xs))
      | inr fails ↦ rw fails (filter-map q f xs)
    ]

pub filter-agree : {X : Type 0} (p q : X → Bool) (xs : List X) → ((x : X) → p x ≡ q x) → filter p xs ≡ filter q xs
filter-agree p q [] same = refl
filter-agree p q (x ∷ xs) same = rw (same x) (ap (λ ys. cond (q x) (x ∷ ys) ys) (filter-agree p q xs same))

pub filter-fails : {X : Type 0} (p : X → Bool) (xs : List X) → ((x : X) → p x ≡ false) → filter p xs ≡ []
filter-fails p [] fails = refl
filter-fails p (x ∷ xs) fails = rw (fails x) (filter-fails p xs fails)

-- one more item of a mapped list, in front of the rest
pub map_step : {X Y : Type 0} (f : X → Y) (before after all : List Y) (now rest : List X) (x : X) → after ≡ before ++ f x ∷ [] → now ≡ x ∷ rest → before ++ map f now ≡ all → after ++ map f rest ≡ all
map_step f before after all now rest x pushed is so_far =
    rw pushed (append_assoc before (f x ∷ []) (map f rest) ∙ ap (λ xs. before ++ map f xs) (sym is) ∙ so_far)

pub map_end : {X Y : Type 0} (f : X → Y) (before all : List Y) (now : List X) → now ≡ [] → before ++ map f now ≡ all → before ≡ all
map_end f before all now is so_far = sym (append-nil before) ∙ ap (λ xs. before ++ map f xs) (sym is) ∙ so_far

-- and of a list of lists
pub flat_step : {X Y : Type 0} (f : X → List Y) (before after all : List Y) (now rest : List X) (x : X) → after ≡ before ++ f x → now ≡ x ∷ rest → before ++ flat_map f now ≡ all → after ++ flat_map f rest ≡ all
flat_step f before after all now rest x pushed is so_far =
    rw pushed (append_assoc before (f x) (flat_map f rest) ∙ ap (λ xs. before ++ flat_map f xs) (sym is) ∙ so_far)

pub flat_end : {X Y : Type 0} (f : X → List Y) (before all : List Y) (now : List X) → now ≡ [] → before ++ flat_map f now ≡ all → before ≡ all
flat_end f before all now is so_far = sym (append-nil before) ∙ ap (λ xs. before ++ flat_map f xs) (sym is) ∙ so_far
