-- Sums over a list, one element of which is known or changes.
use Rattle.std.proofs.Common.{◌≡◌, ◌≢◌, ℕ, zero, suc, ◌+◌, ◌≤◌, List, [], ◌∷◌, set, refl, ap, sym, arith}
use Rattle.std.specs.List.{sum_by}
use Rattle.std.proofs.lemmas.List.Sums.{sum_by-cons}
use mathlib.Core.Option.{some, some-injective, some-ne-none}
use lib.ListN.{get_elem?}

module _ {A : Type 0} (f : A → ℕ) where
  pub sum_put : (vs : List A) (i : ℕ) (v w : A) → get_elem? vs i ≡ some v
      → sum_by f (set vs i w) + f v ≡ sum_by f vs + f w
  sum_put [] i v w e = absurd (some-ne-none v (sym e))
  sum_put (x ∷ xs) zero v w e = let h : f x ≡ f v = ap f (some-injective x v e) in
      omega (arith, sum_by-cons f w xs, sum_by-cons f x xs)
  sum_put (x ∷ xs) (suc i) v w e = let h = sum_put xs i v w e in
      omega (arith, sum_by-cons f x (set xs i w), sum_by-cons f x xs)

  pub part : (vs : List A) (i : ℕ) (v : A) → get_elem? vs i ≡ some v → f v ≤ sum_by f vs
  part [] i v e = absurd (some-ne-none v (sym e))
  part (x ∷ xs) zero v e = let h : f x ≡ f v = ap f (some-injective x v e) in omega (arith, sum_by-cons f x xs)
  part (x ∷ xs) (suc i) v e = let h = part xs i v e in omega (arith, sum_by-cons f x xs)

  -- two parts of one sum
  pub two_parts : (vs : List A) (i j : ℕ) (u v : A) → j ≢ i → get_elem? vs i ≡ some u → get_elem? vs j ≡ some v
      → f u + f v ≤ sum_by f vs
  two_parts [] i j u v n p q = absurd (some-ne-none u (sym p))
  two_parts (x ∷ xs) zero zero u v n p q = absurd (n refl)
  two_parts (x ∷ xs) zero (suc j) u v n p q = let h : f x ≡ f u = ap f (some-injective x u p) in
      let k = part xs j v q in omega (arith, sum_by-cons f x xs)
  two_parts (x ∷ xs) (suc i) zero u v n p q = let h : f x ≡ f v = ap f (some-injective x v q) in
      let k = part xs i u p in omega (arith, sum_by-cons f x xs)
  two_parts (x ∷ xs) (suc i) (suc j) u v n p q = let h = two_parts xs i j u v (λ e. n (ap suc e)) p q in
      omega (arith, sum_by-cons f x xs)

  nothing_else : (vs : List A) → ((j : ℕ) (u : A) → get_elem? vs j ≡ some u → f u ≡ 0) → sum_by f vs ≡ 0
  nothing_else [] none = refl
  nothing_else (x ∷ xs) none = let h = none 0 x refl in let k = nothing_else xs (λ j u e. none (suc j) u e) in
      omega (arith, sum_by-cons f x xs)

  -- one part is the whole sum
  pub only_part : (vs : List A) (i : ℕ) (v : A) → get_elem? vs i ≡ some v
      → ((j : ℕ) (u : A) → j ≢ i → get_elem? vs j ≡ some u → f u ≡ 0) → sum_by f vs ≡ f v
  only_part [] i v e none = absurd (some-ne-none v (sym e))
  only_part (x ∷ xs) zero v e none = let h : f x ≡ f v = ap f (some-injective x v e) in
      let k = nothing_else xs (λ j u p. none (suc j) u (λ z. omega arith) p) in omega (arith, sum_by-cons f x xs)
  only_part (x ∷ xs) (suc i) v e none = let h = none 0 x (λ z. omega arith) refl in
      let k = only_part xs i v e (λ j u n p. none (suc j) u (λ z. n (omega arith)) p) in
      omega (arith, sum_by-cons f x xs)
