-- Sums by index as sums along lists.
use Rattle.std.proofs.Common.{◌≡◌, ℕ, zero, suc, ◌+◌, ◌<◌, refl, ◌∙◌, ap, arith, List, [], ◌∷◌, ◌++◌, length, get_or}
use Rattle.std.specs.List.{AllZip}
use Rattle.std.proofs.lemmas.List.Sums.{sum_by-append}
use Rattle.season_days.specs.Capacity.{Capacity}
use Rattle.capacity_windows.specs.Windows.{window_load}
use Rattle.capacity_windows.specs.declared.movement.Movement.{Movement}
use Rattle.finite_sums.specs.Sums.{sum_below}

-- the load of two lists, one after the other
pub window_load-append : (c : Capacity) (one other : List Movement) (r : ℕ) → window_load c (one ++ other) r ≡ window_load c one r + window_load c other r
window_load-append c one other r = sum_by-append _ one other

-- the sum over the elements at the same places
abbrev pub zip_sum : {X : Type 0} → (X → ℕ → ℕ) → List X → List ℕ → ℕ
zip_sum f [] ns = 0
zip_sum f (x ∷ xs) [] = 0
zip_sum f (x ∷ xs) (n ∷ ns) = f x n + zip_sum f xs ns

-- the first term stands in front
pub sum_below-first : (n : ℕ) (f : ℕ → ℕ) → sum_below (suc n) f ≡ f 0 + sum_below n (λ i. f (suc i))
sum_below-first zero f = omega arith
sum_below-first (suc n) f = omega (arith, sum_below-first n f)

pub zip_sum-below : {X : Type 0} (f : X → ℕ → ℕ) (e : X) (xs : List X) (ns : List ℕ) → length ns ≡ length xs →
    sum_below (length xs) (λ i. f (get_or xs i e) (get_or ns i 0)) ≡ zip_sum f xs ns
zip_sum-below f e [] ns same = refl
zip_sum-below f e (x ∷ xs) [] same = absurd (omega arith)
zip_sum-below f e (x ∷ xs) (n ∷ ns) same =
    let first = sum_below-first (length xs) (λ i. f (get_or (x ∷ xs) i e) (get_or (n ∷ ns) i 0)) in
    let rest = zip_sum-below f e xs ns (omega arith) in
    first ∙ ap (λ k. f x n + k) rest

-- what holds at each place holds along the lists
pub AllZip-from : {X : Type 0} (R : X → ℕ → Type 0) (e : X) (xs : List X) (ns : List ℕ) → length ns ≡ length xs →
    ((i : ℕ) → i < length xs → R (get_or xs i e) (get_or ns i 0)) → AllZip R xs ns
AllZip-from R e [] [] same h = tt
AllZip-from R e [] (n ∷ ns) same h = absurd (omega arith)
AllZip-from R e (x ∷ xs) [] same h = absurd (omega arith)
AllZip-from R e (x ∷ xs) (n ∷ ns) same h = (h 0 (omega arith), AllZip-from R e xs ns (omega arith) (λ i lt. h (suc i) (omega arith)))

pub AllZip-length : {A B : Type 0} (R : A → B → Type 0) (xs : List A) (ys : List B) → AllZip R xs ys → length ys ≡ length xs
AllZip-length R [] [] h = refl
AllZip-length R [] (y ∷ ys) h = absurd h
AllZip-length R (x ∷ xs) [] h = absurd h
AllZip-length R (x ∷ xs) (y ∷ ys) h = ap suc (AllZip-length R xs ys h.1)

pub AllZip-at : {A B : Type 0} (R : A → B → Type 0) (xs : List A) (ys : List B) (i : ℕ) (d : A) (e : B) → AllZip R xs ys → i < length xs → R (get_or xs i d) (get_or ys i e)
AllZip-at R [] ys i d e h lt = let no : ⊥ = omega arith in absurd no
AllZip-at R (x ∷ xs) [] i d e h lt = absurd h
AllZip-at R (x ∷ xs) (y ∷ ys) zero d e h lt = h.0
AllZip-at R (x ∷ xs) (y ∷ ys) (suc i) d e h lt = AllZip-at R xs ys i d e h.1 (omega arith)
