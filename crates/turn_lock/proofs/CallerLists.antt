-- Lists of callers, and how many of them have a number or have seen so many entries.
use Rattle.std.proofs.Common.{◌≡◌, ◌≢◌, ℕ, zero, suc, ◌+◌, ◌<◌, ◌≤◌, eqb, cond, Bool, List, [], ◌∷◌, ◌++◌, map, length, refl, ap, eq-eqb, ne_eqb, arith}
use Rattle.std.specs.List.{AllByRecursion}
use Rattle.std.proofs.lemmas.List.Sums.{sum_by-cons, sum_by-append, count_by-le-length}
use mathlib.Core.Logic.{dite}
use native.Mathlib.Decide.{ℕ_discrete}
use Rattle.turn_lock.specs.declared.view.Caller.{Caller}
use Rattle.turn_lock.specs.Views.{newcomer, newcomers, number_count, seen_count, first_of, others_of, after_seeing}

module _ {E : Type 0} where
  abbrev is_number : ℕ → Caller E → ℕ
  is_number n c = cond (eqb c.number n) 1 0

  pub is_number_same : (n : ℕ) (c : Caller E) → c.number ≡ n → is_number n c ≡ 1
  is_number_same n c is = ap (λ (b : Bool). cond {A = ℕ} b 1 0) (eq-eqb c.number n is)

  pub is_number_other : (n : ℕ) (c : Caller E) → c.number ≢ n → is_number n c ≡ 0
  is_number_other n c other = ap (λ (b : Bool). cond {A = ℕ} b 1 0) (ne_eqb c.number n other)

  abbrev has_seen : ℕ → Caller E → ℕ
  has_seen n c = cond (eqb (length c.seen) n) 1 0

  has_seen_same : (n : ℕ) (c : Caller E) → length c.seen ≡ n → has_seen n c ≡ 1
  has_seen_same n c is = ap (λ (b : Bool). cond {A = ℕ} b 1 0) (eq-eqb (length c.seen) n is)

  pub has_seen_other : (n : ℕ) (c : Caller E) → length c.seen ≢ n → has_seen n c ≡ 0
  has_seen_other n c other = ap (λ (b : Bool). cond {A = ℕ} b 1 0) (ne_eqb (length c.seen) n other)

  pub number_count_cons : (n : ℕ) (c : Caller E) (cs : List (Caller E))
      → number_count n (c ∷ cs) ≡ is_number n c + number_count n cs
  number_count_cons n c cs = sum_by-cons (is_number n) c cs

  pub seen_count_cons : (n : ℕ) (c : Caller E) (cs : List (Caller E))
      → seen_count n (c ∷ cs) ≡ has_seen n c + seen_count n cs
  seen_count_cons n c cs = sum_by-cons (has_seen n) c cs

  pub number_count_append : (n : ℕ) (cs ds : List (Caller E))
      → number_count n (cs ++ ds) ≡ number_count n cs + number_count n ds
  number_count_append n cs ds = sum_by-append (is_number n) cs ds

  pub seen_count_append : (n : ℕ) (cs ds : List (Caller E))
      → seen_count n (cs ++ ds) ≡ seen_count n cs + seen_count n ds
  seen_count_append n cs ds = sum_by-append (has_seen n) cs ds

  pub number_count_le : (n : ℕ) (cs : List (Caller E)) → number_count n cs ≤ length cs
  number_count_le n cs = count_by-le-length (λ (c : Caller E). eqb c.number n) cs

  pub seen_count_le : (n : ℕ) (cs : List (Caller E)) → seen_count n cs ≤ length cs
  seen_count_le n cs = count_by-le-length (λ (c : Caller E). eqb (length c.seen) n) cs

  pub number_count_map : (caller : E → ℕ) (history : List E) (n : ℕ) (cs : List (Caller E))
      → number_count n (map (after_seeing caller history) cs) ≡ number_count n cs
  number_count_map caller history n [] = refl
  number_count_map caller history n (c ∷ cs) = let h = number_count_map caller history n cs in
      omega (arith, number_count_cons n (after_seeing caller history c) (map (after_seeing caller history) cs), number_count_cons n c cs)

  -- callers that have all seen one history
  pub seen_count_map : (caller : E → ℕ) (history : List E) (cs : List (Caller E))
      → seen_count (length history) (map (after_seeing caller history) cs) ≡ length cs
  seen_count_map caller history [] = refl
  seen_count_map caller history (c ∷ cs) = let h = seen_count_map caller history cs in
      let one = has_seen_same (length history) (after_seeing caller history c) refl in
      omega (arith, seen_count_cons (length history) (after_seeing caller history c) (map (after_seeing caller history) cs))

  pub length_map : (caller : E → ℕ) (history : List E) (cs : List (Caller E))
      → length (map (after_seeing caller history) cs) ≡ length cs
  length_map caller history [] = refl
  length_map caller history (c ∷ cs) = ap suc (length_map caller history cs)

  pub number_count_cut : (n : ℕ) (cs : List (Caller E))
      → number_count n (first_of cs) + number_count n (others_of cs) ≡ number_count n cs
  number_count_cut n [] = refl
  number_count_cut n (c ∷ cs) = omega (arith, number_count_cons n c [], number_count_cons n c cs)

  pub seen_count_cut : (n : ℕ) (cs : List (Caller E))
      → seen_count n (first_of cs) + seen_count n (others_of cs) ≡ seen_count n cs
  seen_count_cut n [] = refl
  seen_count_cut n (c ∷ cs) = omega (arith, seen_count_cons n c [], seen_count_cons n c cs)

  pub length_cut : (cs : List (Caller E)) → length (first_of cs) + length (others_of cs) ≡ length cs
  length_cut [] = refl
  length_cut (c ∷ cs) = omega arith

  pub every_first : (P : Caller E → Type 0) (cs : List (Caller E)) → AllByRecursion P cs
      → AllByRecursion P (first_of cs)
  every_first P [] h = tt
  every_first P (c ∷ cs) h = (h.0, tt)

  pub every_other : (P : Caller E → Type 0) (cs : List (Caller E)) → AllByRecursion P cs
      → AllByRecursion P (others_of cs)
  every_other P [] h = tt
  every_other P (c ∷ cs) h = h.1

pub newcomers_length : (E : Type 0) (k n : ℕ) → length (newcomers {E = E} k n) ≡ n
newcomers_length E k zero = refl
newcomers_length E k (suc n) = ap suc (newcomers_length E (suc k) n)

-- they have all seen a history of no entries
pub newcomers_seen : (E : Type 0) (k n : ℕ) → seen_count 0 (newcomers {E = E} k n) ≡ n
newcomers_seen E k zero = refl
newcomers_seen E k (suc n) = let h = newcomers_seen E (suc k) n in let c : Caller E = newcomer k in
    let one = has_seen_same 0 c refl in omega (arith, seen_count_cons 0 c (newcomers (suc k) n))

newcomers_below : (E : Type 0) (k n m : ℕ) → m < k → number_count m (newcomers {E = E} k n) ≡ 0
newcomers_below E k zero m less = refl
newcomers_below E k (suc n) m less = let h = newcomers_below E (suc k) n m (omega arith) in
    let c : Caller E = newcomer k in let e = is_number_other m c (λ z. omega arith) in
    omega (arith, number_count_cons m c (newcomers (suc k) n))

pub newcomers_once : (E : Type 0) (k n m : ℕ) → k ≤ m → m < k + n → number_count m (newcomers {E = E} k n) ≡ 1
newcomers_once E k zero m low high = absurd (omega arith)
newcomers_once E k (suc n) m low high = let c : Caller E = newcomer k in
    let all = number_count_cons m c (newcomers (suc k) n) in dite (ℕ_discrete k m)
    (λ is. let e = is_number_same m c is in let h = newcomers_below E (suc k) n m (omega arith) in omega arith)
    (λ other. let e = is_number_other m c other in
    let h = newcomers_once E (suc k) n m (omega arith) (omega arith) in omega arith)
