-- The lists of flights, where one is put.
use Rattle.std.proofs.Common.{◌≡◌, ℕ, suc, ◌+◌, ◌<◌, ◌≤◌, ◌||◌, not, Bool, true, false, cond, nat_lt, Some, None, List, [], ◌∷◌, ◌++◌, length, map, take, drop, get_or, refl, ap, ◌∙◌, sym, arith, Vec}
use Rattle.std.proofs.lemmas.Grind.{common_steps}
use Rattle.std.proofs.lemmas.List.{map-set}
use Rattle.std.proofs.lemmas.List.Edits.{map_over_more}
use Rattle.std.proofs.Math.ListN.{get_or-map as get_or-mapped}
use Rattle.std.proofs.Math.ListN.{set}
use Rattle.std.specs.List.{position, position_or_len, list_any}
use Rattle.holding_book.specs.Private.Places.{place_lists}

by_test : (b : Bool) (n i : ℕ) → cond b (Some n) None ≡ Some i → n ≡ i
by_test true n i e = cc
by_test false n i e = cc

pub position_is : {X : Type 0} (p : X → Bool) (xs : List X) (i : ℕ) → position p xs ≡ Some i → position_or_len p xs ≡ i
position_is p xs i e = by_test (nat_lt (position_or_len p xs) (length xs)) (position_or_len p xs) i e

either_false : (a b : Bool) → (a || b) ≡ false → (a ≡ false) × (b ≡ false)
either_false true b e = cc
either_false false b e = (refl, e)

suc-injective : {n m : ℕ} → suc n ≡ suc m → n ≡ m
suc-injective {n} {m} e = omega arith

differs : (py px qx : Bool) → (py ≡ true → px ≡ qx) → px ≡ false → qx ≡ true → py ≡ false
differs true px qx h e f = let g = h refl in cc
differs false px qx h e f = refl

not-lt-zero : {n : ℕ} → n < 0 → ⊥
not-lt-zero {n} lt = omega arith

-- ---- all lists moved, one after the other

module _ {A : Type 0} (f : List ℕ → List ℕ) (first : List (Vec ℕ A)) where
  abbrev pub IsSoFar : List (Vec ℕ A) → ℕ → Type 0
  IsSoFar lists i = place_lists lists ≡ map f (take i (place_lists first)) ++ drop i (place_lists first)

  pub lists_more : (lists : List (Vec ℕ A)) (i : ℕ) (v w : Vec ℕ A) → i < length (place_lists first) → IsSoFar lists i → v ≡ get_or lists i v → w.items ≡ f v.items → IsSoFar (set lists i w) (i + 1)
  lists_more lists i v w lt so_far at_i e =
      let x : v.items ≡ get_or (place_lists lists) i v.items = ap (λ (l : Vec ℕ A). l.items) at_i ∙ sym (get_or-mapped (λ (l : Vec ℕ A). l.items) lists i v) in
      rw (map-set (λ (l : Vec ℕ A). l.items) lists i w, e) (map_over_more f (place_lists first) (place_lists lists) i v.items lt so_far x)

  pub list_at : (lists : List (Vec ℕ A)) (i : ℕ) (v : Vec ℕ A) → i < length (place_lists first) → IsSoFar lists i → v ≡ get_or lists i v → v.items ≡ get_or (place_lists first) i v.items
  list_at lists i v lt so_far at_i =
      let x : v.items ≡ get_or (place_lists lists) i v.items = ap (λ (l : Vec ℕ A). l.items) at_i ∙ sym (get_or-mapped (λ (l : Vec ℕ A). l.items) lists i v) in
      let n : i ≤ length (place_lists first) = omega arith in
      let y : get_or (map f (take i (place_lists first)) ++ drop i (place_lists first)) i v.items ≡ get_or (place_lists first) i v.items = grind (arith, common_steps) in
      x ∙ ap (λ (l : List (List ℕ)). get_or l i v.items) so_far ∙ y

-- ---- a list is put for a flight

at_next : {L : Type 0} (l : L) (ls : List L) (n : ℕ) (d : L) → get_or (l ∷ ls) (1 + n) d ≡ get_or ls n d
at_next l ls n d = let e : 1 + n ≡ suc n = omega arith in rw e refl

set_next : {L : Type 0} (l : L) (ls : List L) (n : ℕ) (v : L) → set (l ∷ ls) (1 + n) v ≡ l ∷ set ls n v
set_next l ls n v = let e : 1 + n ≡ suc n = omega arith in rw e refl

-- a new one comes last: p is the test of a flight that is looked up, q that of the one that is put
pub put_new : {X L : Type 0} (p q : X → Bool) (y : X) → ((x : X) → p x ≡ true → q x ≡ false → p y ≡ false) → (list d : L) (xs : List X) (ls : List L) → length ls ≡ length xs → list_any q xs ≡ false → get_or (ls ++ list ∷ []) (position_or_len p (xs ++ y ∷ [])) d ≡ cond (p y) list (get_or ls (position_or_len p xs) d)
put_new p q y apart list d [] [] same absent = elim (p y) as (λ b. get_or (list ∷ []) (cond (not b) (1 + 0) 0) d ≡ cond b list d) [ true ↦ refl | false ↦ refl ]
put_new p q y apart list d [] (l ∷ ls) same absent = cc
put_new p q y apart list d (x ∷ xs) [] same absent = cc
put_new p q y apart list d (x ∷ xs) (l ∷ ls) same absent =
    let none = either_false (q x) (list_any q xs) absent in
    let rest = put_new p q y apart list d xs ls (suc-injective same) none.1 in
    elim (p x) as (λ b. p x ≡ b → get_or (l ∷ (ls ++ list ∷ [])) (cond (not b) (1 + position_or_len p (xs ++ y ∷ [])) 0) d ≡ cond (p y) list (get_or (l ∷ ls) (cond (not b) (1 + position_or_len p xs) 0) d)) [
      | true ↦ λ e. rw (apart x e none.0) refl
      | false ↦ λ e. rw (at_next l (ls ++ list ∷ []) (position_or_len p (xs ++ y ∷ [])) d, at_next l ls (position_or_len p xs) d) rest
    ] refl

-- one that is there keeps its place
pub put_old : {X L : Type 0} (p q : X → Bool) (y : X) → ((x : X) → p x ≡ true → q x ≡ false → p y ≡ false) → ((x : X) → p y ≡ true → p x ≡ q x) → ((x : X) → p x ≡ true → q x ≡ true → p y ≡ true) → (list d : L) (xs : List X) (ls : List L) → length ls ≡ length xs → position_or_len q xs < length xs → get_or (set ls (position_or_len q xs) list) (position_or_len p xs) d ≡ cond (p y) list (get_or ls (position_or_len p xs) d)
put_old p q y apart same_tests both list d [] ls same lt = absurd (not-lt-zero lt)
put_old p q y apart same_tests both list d (x ∷ xs) [] same lt = cc
put_old p q y apart same_tests both list d (x ∷ xs) (l ∷ ls) same lt =
    elim (q x) as (λ c. q x ≡ c → cond (not c) (1 + position_or_len q xs) 0 < suc (length xs) → get_or (set (l ∷ ls) (cond (not c) (1 + position_or_len q xs) 0) list) (cond (not (p x)) (1 + position_or_len p xs) 0) d ≡ cond (p y) list (get_or (l ∷ ls) (cond (not (p x)) (1 + position_or_len p xs) 0) d)) [
      | true ↦ λ f lt. elim (p x) as (λ b. p x ≡ b → get_or (list ∷ ls) (cond (not b) (1 + position_or_len p xs) 0) d ≡ cond (p y) list (get_or (l ∷ ls) (cond (not b) (1 + position_or_len p xs) 0) d)) [
        | true ↦ λ e. rw (both x e f) refl
        | false ↦ λ e. rw (differs (p y) (p x) (q x) (same_tests x) e f, at_next list ls (position_or_len p xs) d, at_next l ls (position_or_len p xs) d) refl
      ] refl
      | false ↦ λ f lt. elim (p x) as (λ b. p x ≡ b → get_or (set (l ∷ ls) (1 + position_or_len q xs) list) (cond (not b) (1 + position_or_len p xs) 0) d ≡ cond (p y) list (get_or (l ∷ ls) (cond (not b) (1 + position_or_len p xs) 0) d)) [
        | true ↦ λ e. rw (set_next l ls (position_or_len q xs) list, apart x e f) refl
        | false ↦ λ e. rw (set_next l ls (position_or_len q xs) list, at_next l (set ls (position_or_len q xs) list) (position_or_len p xs) d, at_next l ls (position_or_len p xs) d) (put_old p q y apart same_tests both list d xs ls (suc-injective same) (omega arith))
      ] refl
    ] refl lt

pub not_true : (b : Bool) → not b ≡ true → b ≡ false
not_true true e = cc
not_true false e = refl

pub not_false : (b : Bool) → not b ≡ false → b ≡ true
not_false true e = refl
not_false false e = cc

pub keys_new : {X : Type 0} (b : Bool) (xs : List X) (x : X) → b ≡ false → cond b xs (xs ++ x ∷ []) ≡ xs ++ x ∷ []
keys_new true xs x e = cc
keys_new false xs x e = refl

pub keys_old : {X : Type 0} (b : Bool) (xs : List X) (x : X) → b ≡ true → cond b xs (xs ++ x ∷ []) ≡ xs
keys_old true xs x e = refl
keys_old false xs x e = cc
