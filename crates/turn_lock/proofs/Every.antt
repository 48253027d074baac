-- Facts that hold of each element of a list.
use Rattle.std.proofs.Common.{◌≡◌, ◌≢◌, ℕ, zero, suc, All, List, [], ◌∷◌, ◌++◌, map, set, ⊎_elim, refl, subst, arith}
use Rattle.std.specs.List.{AllByRecursion, Any}
use mathlib.Core.Option.{some}
use lib.ListN.{get_elem?}
use Rattle.turn_lock.proofs.Places as places

module _ {A : Type 0} (P : A → Type 0) where
  pub every_append : (xs ys : List A) → AllByRecursion P xs → AllByRecursion P ys → AllByRecursion P (xs ++ ys)
  every_append [] ys h k = k
  every_append (x ∷ xs) ys h k = (h.0, every_append xs ys h.1 k)

  pub every_front : (xs ys : List A) → AllByRecursion P (xs ++ ys) → AllByRecursion P xs
  every_front [] ys h = tt
  every_front (x ∷ xs) ys h = (h.0, every_front xs ys h.1)

  pub every_back : (xs ys : List A) → AllByRecursion P (xs ++ ys) → AllByRecursion P ys
  every_back [] ys h = h
  every_back (x ∷ xs) ys h = every_back xs ys h.1

  pub all_of_every : (xs : List A) → AllByRecursion P xs → All P xs
  all_of_every [] h k d l = absurd (omega arith)
  all_of_every (x ∷ xs) h zero d l = h.0
  all_of_every (x ∷ xs) h (suc k) d l = all_of_every xs h.1 k d (omega arith)

  pub every_of_all : (xs : List A) → All P xs → AllByRecursion P xs
  every_of_all [] h = tt
  every_of_all (x ∷ xs) h = (h 0 x (omega arith), every_of_all xs (λ k d l. h (suc k) d (omega arith)))

  pub any_first : (x : A) (xs : List A) → P x → Any P (x ∷ xs)
  any_first x xs h = (0, x, omega arith, refl, h)

  pub any_later : (x : A) (xs : List A) → Any P xs → Any P (x ∷ xs)
  any_later x xs (k, y, l, e, h) = (suc k, y, omega arith, e, h)

  -- an element changed, and the fact holds of the new one and of all others
  pub all_set : (vs : List A) (i : ℕ) (w : A) → ((j : ℕ) (v : A) → j ≢ i → get_elem? vs j ≡ some v → P v) → P w
      → (j : ℕ) (v : A) → get_elem? (set vs i w) j ≡ some v → P v
  all_set vs i w all now j v e = ⊎_elim (λ (t : (j ≡ i) × (w ≡ v)). subst P t.1 now) (λ (t : (j ≢ i) × (get_elem? vs j ≡ some v)). all j v t.0 t.1) (places.at_set vs i j w v e)

  pub all_snoc : (vs : List A) (w : A) → ((j : ℕ) (v : A) → get_elem? vs j ≡ some v → P v) → P w → (j : ℕ) (v : A)
      → get_elem? (vs ++ w ∷ []) j ≡ some v → P v
  all_snoc vs w all now j v e = ⊎_elim (all j v) (λ (t : w ≡ v). subst P t now) (places.at_snoc vs w v j e)

module _ {A : Type 0} where
  pub every_as : (P Q : A → Type 0) (xs : List A) → ((x : A) → P x → Q x) → AllByRecursion P xs
      → AllByRecursion Q xs
  every_as P Q [] more h = tt
  every_as P Q (x ∷ xs) more h = (more x h.0, every_as P Q xs more h.1)

  pub every_map : {B : Type 0} (P : A → Type 0) (Q : B → Type 0) (f : A → B) (xs : List A)
      → ((x : A) → P x → Q (f x)) → AllByRecursion P xs → AllByRecursion Q (map f xs)
  every_map P Q f [] more h = tt
  every_map P Q f (x ∷ xs) more h = (more x h.0, every_map P Q f xs more h.1)

  pub every_unmap : {B : Type 0} (P : B → Type 0) (f : A → B) (xs : List A) → AllByRecursion P (map f xs)
      → AllByRecursion (λ x. P (f x)) xs
  every_unmap P f [] h = tt
  every_unmap P f (x ∷ xs) h = (h.0, every_unmap P f xs h.1)
