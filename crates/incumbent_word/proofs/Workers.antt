-- Lists of workers, and what changes where one is set.
use Rattle.std.proofs.Common.{◌≡◌, ◌≢◌, ℕ, zero, suc, ◌+◌, ◌≤◌, eqb, cond, List, [], ◌∷◌, ◌++◌, length, set, Option, Some, None, ◌⊎◌, inl, inr, ⊎_elim, refl, ap, sym, subst, arith}
use mathlib.Core.Option.{some, some-injective, some-ne-none}
use lib.ListN.{get_elem?}
use Rattle.incumbent_word.specs.declared.view.Worker.{Worker}
use Rattle.std.specs.List.{sum_by, count_by}
use Rattle.std.proofs.lemmas.List.Sums.{sum_by-cons, sum_by-append}
use Rattle.incumbent_word.specs.Core.{worker_at, of_worker}
use Rattle.incumbent_word.specs.Rule.{presence}

pub not_none : {A : Type 0} (w : A) → ¬ (None ≡ Some w)
not_none w e = cc

pub at_set : (ws : List (Option Worker)) (i j : ℕ) (o : Option Worker) (v : Worker) → worker_at (set ws i o) j ≡ Some v
    → ((j ≡ i) × (o ≡ Some v)) ⊎ ((j ≢ i) × (worker_at ws j ≡ Some v))
at_set [] i j o v e = absurd (not_none v e)
at_set (x ∷ xs) zero zero o v e = inl (refl, e)
at_set (x ∷ xs) zero (suc j) o v e = inr ((λ h. omega arith), e)
at_set (x ∷ xs) (suc i) zero o v e = inr ((λ h. omega arith), e)
at_set (x ∷ xs) (suc i) (suc j) o v e = ⊎_elim (λ t. inl (ap suc t.0, t.1)) (λ t. let n = t.0 in inr ((λ h. n (omega arith)), t.1)) (at_set xs i j o v e)

pub at_snoc : (ws : List (Option Worker)) (j : ℕ) (o : Option Worker) (v : Worker) → worker_at (ws ++ o ∷ []) j ≡ Some v → (worker_at ws j ≡ Some v) ⊎ (o ≡ Some v)
at_snoc [] zero o v e = inr e
at_snoc [] (suc j) o v e = absurd (not_none v e)
at_snoc (x ∷ xs) zero o v e = inl e
at_snoc (x ∷ xs) (suc j) o v e = at_snoc xs j o v e

pub at_here : (ws : List (Option Worker)) (i : ℕ) (o : Option Worker) (v : Worker) → worker_at ws i ≡ Some v → worker_at (set ws i o) i ≡ o
at_here [] i o v e = absurd (not_none v e)
at_here (x ∷ xs) zero o v e = refl
at_here (x ∷ xs) (suc i) o v e = at_here xs i o v e

pub at_else : (ws : List (Option Worker)) (i j : ℕ) (o : Option Worker) → j ≢ i → worker_at (set ws i o) j ≡ worker_at ws j
at_else [] i j o n = refl
at_else (x ∷ xs) zero zero o n = absurd (n refl)
at_else (x ∷ xs) zero (suc j) o n = refl
at_else (x ∷ xs) (suc i) zero o n = refl
at_else (x ∷ xs) (suc i) (suc j) o n = at_else xs i j o (λ e. n (ap suc e))

pub at_longer : (ws vs : List (Option Worker)) (i : ℕ) (v : Worker) → worker_at ws i ≡ Some v → worker_at (ws ++ vs) i ≡ Some v
at_longer [] vs i v e = absurd (not_none v e)
at_longer (x ∷ xs) vs zero v e = e
at_longer (x ∷ xs) vs (suc i) v e = at_longer xs vs i v e

-- sums over the workers, where one is set
pub total_set : (f : Worker → ℕ) (ws : List (Option Worker)) (i : ℕ) (w : Worker) (o : Option Worker) → worker_at ws i ≡ Some w
    → sum_by (of_worker f) (set ws i o) + f w ≡ sum_by (of_worker f) ws + of_worker f o
total_set f [] i w o e = absurd (not_none w e)
total_set f (x ∷ xs) zero w o e = let h : of_worker f x ≡ f w = ap (of_worker f) e in omega (arith, sum_by-cons (of_worker f) o xs, sum_by-cons (of_worker f) x xs)
total_set f (x ∷ xs) (suc i) w o e = let h = total_set f xs i w o e in omega (arith, sum_by-cons (of_worker f) x (set xs i o), sum_by-cons (of_worker f) x xs)

pub part_of : (f : Worker → ℕ) (ws : List (Option Worker)) (i : ℕ) (w : Worker) → worker_at ws i ≡ Some w → f w ≤ sum_by (of_worker f) ws
part_of f [] i w e = absurd (not_none w e)
part_of f (x ∷ xs) zero w e = let h : of_worker f x ≡ f w = ap (of_worker f) e in omega (arith, sum_by-cons (of_worker f) x xs)
part_of f (x ∷ xs) (suc i) w e = let h = part_of f xs i w e in omega (arith, sum_by-cons (of_worker f) x xs)

pub count_append : (x : ℕ) (xs ys : List ℕ) → count_by (λ y. eqb y x) (xs ++ ys) ≡ count_by (λ y. eqb y x) xs + count_by (λ y. eqb y x) ys
count_append x xs ys = sum_by-append (λ y. cond (eqb y x) 1 0) xs ys

-- no worker is there
pub nobody : (f : Worker → ℕ) (ws : List (Option Worker)) → ((i : ℕ) (w : Worker) → ¬ (worker_at ws i ≡ Some w)) → sum_by (of_worker f) ws ≡ 0
nobody f [] none = refl
nobody f (None ∷ xs) none = let h = nobody f xs (λ i. none (suc i)) in omega (arith, sum_by-cons (of_worker f) None xs)
nobody f (Some w ∷ xs) none = absurd (none 0 w refl)

-- only one worker is there
pub only_one : (f : Worker → ℕ) (ws : List (Option Worker)) (i : ℕ) (w : Worker) → worker_at ws i ≡ Some w → ((j : ℕ) (v : Worker) → worker_at ws j ≡ Some v → j ≡ i) → sum_by (of_worker f) ws ≡ f w
only_one f [] i w e alone = absurd (not_none w e)
only_one f (x ∷ xs) zero w e alone = let h : of_worker f x ≡ f w = ap (of_worker f) e in
    let none = nobody f xs (λ j v there. absurd (let z : suc j ≡ 0 = alone (suc j) v there in omega arith)) in omega (arith, sum_by-cons (of_worker f) x xs)
only_one f (None ∷ xs) (suc i) w e alone = let h = only_one f xs i w e (λ j v there. let z : suc j ≡ suc i = alone (suc j) v there in omega arith) in omega (arith, sum_by-cons (of_worker f) None xs)
only_one f (Some v ∷ xs) (suc i) w e alone = absurd (let z : 0 ≡ suc i = alone 0 v refl in omega arith)

-- who is there, where a worker is set, gone or new
pub presence_some : (o : Option Worker) (w : Worker) → o ≡ Some w → presence o ≡ 1
presence_some o w e = ap presence e

pub presence_most : (o : Option Worker) → presence o ≤ 1
presence_most None = omega arith
presence_most (Some w) = omega arith

pub presence_there : (o : Option Worker) → 1 ≤ presence o → (w : Worker) × (o ≡ Some w)
presence_there None is = absurd (omega arith)
presence_there (Some w) is = (w, refl)

pub past_end : (ws : List (Option Worker)) (n : ℕ) → length ws ≤ n → worker_at ws n ≡ None
past_end [] n past = refl
past_end (x ∷ xs) zero past = absurd (omega arith)
past_end (x ∷ xs) (suc n) past = past_end xs n (omega arith)

pub at_end : (ws : List (Option Worker)) (o : Option Worker) → worker_at (ws ++ o ∷ []) (length ws) ≡ o
at_end [] o = refl
at_end (x ∷ xs) o = at_end xs o

pub at_before : (ws : List (Option Worker)) (o : Option Worker) (n : ℕ) → n ≢ length ws → worker_at (ws ++ o ∷ []) n ≡ worker_at ws n
at_before [] o zero other = absurd (other refl)
at_before [] o (suc n) other = refl
at_before (x ∷ xs) o zero other = refl
at_before (x ∷ xs) o (suc n) other = at_before xs o n (λ e. other (ap suc e))

module _ {A : Type 0} where
  pub total_put : (f : A → ℕ) (vs : List A) (i : ℕ) (v w : A) → get_elem? vs i ≡ some v → sum_by f (set vs i w) + f v ≡ sum_by f vs + f w
  total_put f [] i v w e = absurd (some-ne-none v (sym e))
  total_put f (x ∷ xs) zero v w e = let h : f x ≡ f v = ap f (some-injective x v e) in omega (arith, sum_by-cons f w xs, sum_by-cons f x xs)
  total_put f (x ∷ xs) (suc i) v w e = let h = total_put f xs i v w e in omega (arith, sum_by-cons f x (set xs i w), sum_by-cons f x xs)

  pub one_part : (f : A → ℕ) (vs : List A) (i : ℕ) (v : A) → get_elem? vs i ≡ some v → f v ≤ sum_by f vs
  one_part f [] i v e = absurd (some-ne-none v (sym e))
  one_part f (x ∷ xs) zero v e = let h : f x ≡ f v = ap f (some-injective x v e) in omega (arith, sum_by-cons f x xs)
  one_part f (x ∷ xs) (suc i) v e = let h = one_part f xs i v e in omega (arith, sum_by-cons f x xs)

  pub two_parts : (f : A → ℕ) (vs : List A) (i j : ℕ) (v w : A) → get_elem? vs i ≡ some v → get_elem? vs j ≡ some w → j ≢ i → f v + f w ≤ sum_by f vs
  two_parts f [] i j v w e g other = absurd (some-ne-none v (sym e))
  two_parts f (x ∷ xs) zero zero v w e g other = absurd (other refl)
  two_parts f (x ∷ xs) zero (suc j) v w e g other = let h : f x ≡ f v = ap f (some-injective x v e) in let p = one_part f xs j w g in omega (arith, sum_by-cons f x xs)
  two_parts f (x ∷ xs) (suc i) zero v w e g other = let h : f x ≡ f w = ap f (some-injective x w g) in let p = one_part f xs i v e in omega (arith, sum_by-cons f x xs)
  two_parts f (x ∷ xs) (suc i) (suc j) v w e g other = let p = two_parts f xs i j v w e g (λ z. other (ap suc z)) in omega (arith, sum_by-cons f x xs)

  pub put_here : (vs : List A) (i : ℕ) (v w : A) → get_elem? vs i ≡ some v → get_elem? (set vs i w) i ≡ some w
  put_here [] i v w e = absurd (some-ne-none v (sym e))
  put_here (x ∷ xs) zero v w e = refl
  put_here (x ∷ xs) (suc i) v w e = put_here xs i v w e

-- every worker that is there has the property
abbrev pub Each : (Worker → Type 0) → List (Option Worker) → Type 0
Each P ws = (i : ℕ) (w : Worker) → worker_at ws i ≡ Some w → P w

pub some_same : {A : Type 0} (w v : A) → Some w ≡ Some v → w ≡ v
some_same w v e = cc

module _ (P : Worker → Type 0) (ws : List (Option Worker)) (each : Each P ws) where
  pub each_set : (i : ℕ) (v : Worker) → P v → Each P (set ws i (Some v))
  each_set i v p j w e = ⊎_elim (λ (t : (j ≡ i) × (Some v ≡ Some w)). subst P (some_same v w t.1) p) (λ (t : (j ≢ i) × (worker_at ws j ≡ Some w)). each j w t.1) (at_set ws i j (Some v) w e)

  pub each_gone : (i : ℕ) → Each P (set ws i None)
  each_gone i j w e = ⊎_elim (λ (t : (j ≡ i) × (None ≡ Some w)). absurd (not_none w t.1)) (λ (t : (j ≢ i) × (worker_at ws j ≡ Some w)). each j w t.1) (at_set ws i j None w e)

  pub each_snoc : (v : Worker) → P v → Each P (ws ++ Some v ∷ [])
  each_snoc v p j w e = ⊎_elim (each j w) (λ (t : Some v ≡ Some w). subst P (some_same v w t) p) (at_snoc ws j (Some v) w e)
