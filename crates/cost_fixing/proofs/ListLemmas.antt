-- The numbers below a bound that pass a test, as a list.
use Rattle.std.proofs.Common.{◌≡◌, ℕ, zero, suc, ◌+◌, ◌<◌, ◌≤◌, Bool, true, false, not, cond, List, [], ◌∷◌, ◌++◌, length, get_or, refl, sym, ◌∙◌, ap, ap₂, arith, inl, inr, add-one}
use Rattle.std.specs.Prelude.{All, if◌then◌else◌, ◌&&◌}
use Rattle.std.specs.List.{filter, range_with_len}
use Rattle.std.proofs.lemmas.Bool.{cases_lt, cases_Bool}
use Rattle.std.proofs.lemmas.List.{length-append, get_or_append_left, get_or-append-add, get_or_push}
use Rattle.std.proofs.lemmas.List.Elements.{filter-append, All-nil, All-cons, All-append, All-weaker, All-filter}
use Rattle.finite_sums.specs.Sums.{count_below}
use Rattle.cost_fixing.specs.Fixings.{parted}

-- one number more
range-last : (a n : ℕ) → range_with_len a (suc n) ≡ range_with_len a n ++ (a + n) ∷ []
range-last a zero = let e : a ≡ a + zero = omega arith in ap (λ (k : ℕ). k ∷ []) e
range-last a (suc n) =
    let e : a + 1 + n ≡ a + suc n = omega arith in
    ap (λ (l : List ℕ). a ∷ l) (range-last (a + 1) n) ∙ ap (λ (k : ℕ). a ∷ range_with_len (a + 1) n ++ k ∷ []) e

range-next : (n : ℕ) → range_with_len 0 (suc n) ≡ range_with_len 0 n ++ n ∷ []
range-next n =
    let e : 0 + n ≡ n = omega arith in
    range-last 0 n ∙ ap (λ (k : ℕ). range_with_len 0 n ++ k ∷ []) e

range-below : (a n : ℕ) → All (λ x. x < a + n) (range_with_len a n)
range-below a zero = All-nil (λ x. x < a + 0)
range-below a (suc n) =
    All-cons (λ x. x < a + suc n) a (range_with_len (a + 1) n) (omega arith)
    (All-weaker (λ x. x < a + 1 + n) (λ x. x < a + suc n) (λ x lt. omega (arith, lt)) (range_with_len (a + 1) n) (range-below (a + 1) n))

-- those that pass
abbrev pub passing : (ℕ → Bool) → ℕ → List ℕ
passing p n = filter p (range_with_len 0 n)

passing-suc : (p : ℕ → Bool) (n : ℕ) → passing p (suc n) ≡ passing p n ++ cond (p n) (n ∷ []) []
passing-suc p n = ap (filter p) (range-next n) ∙ filter-append p (range_with_len 0 n) (n ∷ [])

pub passing-more : (p : ℕ → Bool) (n : ℕ) → passing p (n + 1) ≡ passing p n ++ cond (p n) (n ∷ []) []
passing-more p n = rw add-one (passing-suc p n)

length-one : (b : Bool) (n : ℕ) → length (cond b (n ∷ []) []) ≡ (if b then 1 else 0)
length-one true n = refl
length-one false n = refl

pub length-passing : (p : ℕ → Bool) (n : ℕ) → length (passing p n) ≡ count_below n p
length-passing p zero = refl
length-passing p (suc n) =
    ap length (passing-suc p n) ∙ length-append (passing p n) (cond (p n) (n ∷ []) [])
    ∙ ap (λ (k : ℕ). k + length (cond (p n) (n ∷ []) [])) (length-passing p n)
    ∙ ap (λ (k : ℕ). count_below n p + k) (length-one (p n) n)

pub passing-few : (p : ℕ → Bool) (n : ℕ) → length (passing p n) ≤ n
passing-few p zero = omega arith
passing-few p (suc n) =
    omega (arith, passing-few p n, ap length (passing-suc p n), length-append (passing p n) (cond (p n) (n ∷ []) []), length-one (p n) n, at_most (p n))
  where
    at_most : (b : Bool) → (if b then 1 else 0) ≤ 1
    at_most true = omega arith
    at_most false = omega arith

-- a number that passes stands behind those below it
pub record StandsAt (xs : List ℕ) (k x : ℕ) : Type 0 where
  pub there : k < length xs
  pub is : get_or xs k 0 ≡ x

stands-before : (xs ys : List ℕ) (k x : ℕ) → StandsAt xs k x → StandsAt (xs ++ ys) k x
stands-before xs ys k x s = record {
  there = omega (arith, s.there, length-append xs ys);
  is = get_or_append_left xs ys 0 k s.there ∙ s.is;
}

stands-last : (xs : List ℕ) (k x : ℕ) → length xs ≡ k → StandsAt (xs ++ x ∷ []) k x
stands-last xs k x e = record {
  there = omega (arith, e, length-append xs (x ∷ []));
  is = get_or_push xs x 0 k e;
}

pub passing-at : (p : ℕ → Bool) (n a : ℕ) → a < n → p a ≡ true → StandsAt (passing p n) (count_below a p) a
passing-at p zero a lt is = absurd (omega arith)
passing-at p (suc n) a lt is =
    rw (passing-suc p n) (elim (cases_lt a n) [
      | inl before ↦ stands-before (passing p n) (cond (p n) (n ∷ []) []) (count_below a p) a (passing-at p n a before is)
      | inr last ↦
          let e : n ≡ a = omega arith in
          let passes : p n ≡ true = ap p e ∙ is in
          rw (passes, e) (stands-last (passing p a) (count_below a p) a (length-passing p a))
    ])

-- what passes is below the bound
pub range-within : (n : ℕ) → All (λ a. a < n) (range_with_len 0 n)
range-within n = All-weaker (λ x. x < 0 + n) (λ x. x < n) (λ x lt. omega (arith, lt)) (range_with_len 0 n) (range-below 0 n)

pub passing-there : (p : ℕ → Bool) (n : ℕ) → All (λ a. a < n) (passing p n)
passing-there p n = All-filter p (λ a. a < n) (range_with_len 0 n) (range-within n)

-- tests that agree below the bound pass the same
pub passing-agree : (p q : ℕ → Bool) (n : ℕ) → ((a : ℕ) → a < n → p a ≡ q a) → passing p n ≡ passing q n
passing-agree p q zero h = refl
passing-agree p q (suc n) h =
    let last : p n ≡ q n = h n (omega arith) in
    passing-suc p n ∙ ap (λ (l : List ℕ). l ++ cond (p n) (n ∷ []) []) (passing-agree p q n (λ a lt. h a (omega (arith, lt))))
    ∙ ap (λ (b : Bool). passing q n ++ cond b (n ∷ []) []) last ∙ sym (passing-suc q n)

-- numbers in two parts: those that do not pass the second test come first
abbrev pub before : (ℕ → Bool) → (ℕ → Bool) → ℕ → Bool
before kept last a = kept a && not (last a)

abbrev pub behind : (ℕ → Bool) → (ℕ → Bool) → ℕ → Bool
behind kept last a = kept a && last a

parts-one : (k l : Bool) → (if k && not l then 1 else 0) + (if k && l then 1 else 0) ≤ 1
parts-one true true = omega arith
parts-one true false = omega arith
parts-one false l = omega arith

parts-few : (kept last : ℕ → Bool) (n : ℕ) → length (passing (before kept last) n) + length (passing (behind kept last) n) ≤ n
parts-few kept last zero = omega arith
parts-few kept last (suc n) =
    omega (
      arith,
      parts-few kept last n,
      ap length (passing-suc (before kept last) n),
      length-append (passing (before kept last) n) (cond (before kept last n) (n ∷ []) []),
      length-one (before kept last n) n,
      ap length (passing-suc (behind kept last) n),
      length-append (passing (behind kept last) n) (cond (behind kept last n) (n ∷ []) []),
      length-one (behind kept last n) n,
      parts-one (kept n) (last n),
    )

pub parted-few : (kept last : ℕ → Bool) (n : ℕ) → length (parted kept last n) ≤ n
parted-few kept last n = omega (arith, parts-few kept last n, length-append (passing (before kept last) n) (passing (behind kept last) n))

pub parted-there : (kept last : ℕ → Bool) (n : ℕ) → All (λ a. a < n) (parted kept last n)
parted-there kept last n =
    All-append (λ a. a < n) (passing (before kept last) n) (passing (behind kept last) n) (passing-there (before kept last) n) (passing-there (behind kept last) n)

pub parted-agree : (k l k' l' : ℕ → Bool) (n : ℕ) → ((a : ℕ) → a < n → k a ≡ k' a) → ((a : ℕ) → a < n → l a ≡ l' a) → parted k l n ≡ parted k' l' n
parted-agree k l k' l' n same also =
    ap₂ (λ (xs ys : List ℕ). xs ++ ys)
    (passing-agree (before k l) (before k' l') n (λ a lt. ap₂ (λ (b c : Bool). b && not c) (same a lt) (also a lt)))
    (passing-agree (behind k l) (behind k' l') n (λ a lt. ap₂ (λ (b c : Bool). b && c) (same a lt) (also a lt)))

stands-behind : (xs ys : List ℕ) (k x : ℕ) → StandsAt ys k x → StandsAt (xs ++ ys) (length xs + k) x
stands-behind xs ys k x s = record {
  there = omega (arith, s.there, length-append xs ys);
  is = get_or-append-add xs ys k 0 ∙ s.is;
}

-- where a number that is kept stands
abbrev pub place_in : (ℕ → Bool) → (ℕ → Bool) → ℕ → ℕ → ℕ
place_in kept last n a = cond (last a) (length (passing (before kept last) n) + count_below a (behind kept last)) (count_below a (before kept last))

pub parted-at : (kept last : ℕ → Bool) (n a : ℕ) → a < n → kept a ≡ true → StandsAt (parted kept last n) (place_in kept last n a) a
parted-at kept last n a lt is = elim (cases_Bool (last a)) [
  | inl t ↦
      let passes : behind kept last a ≡ true = ap₂ (λ (b c : Bool). b && c) is t in
      let at : place_in kept last n a ≡ length (passing (before kept last) n) + count_below a (behind kept last) =
      ap (λ (b : Bool). cond b (length (passing (before kept last) n) + count_below a (behind kept last)) (count_below a (before kept last))) t in
      rw at (stands-behind (passing (before kept last) n) (passing (behind kept last) n) (count_below a (behind kept last)) a (passing-at (behind kept last) n a lt passes))
  | inr f ↦
      let passes : before kept last a ≡ true = ap₂ (λ (b c : Bool). b && not c) is f in
      let at : place_in kept last n a ≡ count_below a (before kept last) =
      ap (λ (b : Bool). cond b (length (passing (before kept last) n) + count_below a (behind kept last)) (count_below a (before kept last))) f in
      rw at (stands-before (passing (before kept last) n) (passing (behind kept last) n) (count_below a (before kept last)) a (passing-at (before kept last) n a lt passes))
]
