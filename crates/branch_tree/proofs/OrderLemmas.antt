-- The order of a unit's alternatives by cost and number.
use Rattle.std.proofs.Common.{◌≡◌, ℕ, zero, suc, ◌+◌, ◌<◌, ◌≤◌, refl, arith, inl, inr, ◌⊎◌, Bool, true, false, Option, Some, None}
use Rattle.std.specs.Prelude.{nat_lt, ◌==◌, ◌&&◌, ◌||◌, if◌then◌else◌}
use Rattle.std.specs.Option.{ForSome}
use Rattle.std.proofs.lemmas.Bool.{cases_lt}
use Rattle.std.proofs.lemmas.Grind.{common_steps}
use Rattle.choice_problem.specs.Problems.{ProblemView, alt_count, alt_cost}
use Rattle.finite_sums.specs.Sums.{count_below}
use Rattle.choice_problem.specs.Greedy.{FitsOn, IsGreedyAlt}
use Rattle.branch_tree.specs.Loops.{precedes, follows, leads, IsNextBelow, AreFrom, still_to_try}

-- more pass a test that is passed wherever the other is, and somewhere besides
count_below-less : (n k : ℕ) (one other : ℕ → Bool) → ((i : ℕ) → i < n → one i ≡ true → other i ≡ true) → k < n → one k ≡ false → other k ≡ true →
    count_below n one < count_below n other
count_below-less zero k one other h l f t = absurd (omega arith)
count_below-less (suc n) k one other h l f t =
    elim (cases_lt k n) [
      | inl below ↦ omega (arith, count_below-less n k one other (λ i j. h i (omega arith)) below f t, step (one n) (other n) (h n (omega arith)))
      | inr last ↦
          let e : k ≡ n = omega arith in
          omega (arith, count_below-more_le n one other (λ i j. h i (omega arith)), gain (one n) (other n) (rw e at f) (rw e at t))
    ]
  where
    step : (a b : Bool) → (a ≡ true → b ≡ true) → (if a then 1 else 0) ≤ (if b then 1 else 0)
    step true b m = let e = m refl in rw e (omega arith)
    step false b m = omega arith

    gain : (a b : Bool) → a ≡ false → b ≡ true → (if a then 1 else 0) + 1 ≤ (if b then 1 else 0)
    gain a b e d = rw (e, d) (omega arith)

    count_below-more_le : (m : ℕ) (p q : ℕ → Bool) → ((i : ℕ) → i < m → p i ≡ true → q i ≡ true) → count_below m p ≤ count_below m q
    count_below-more_le zero p q g = omega arith
    count_below-more_le (suc m) p q g = omega (arith, count_below-more_le m p q (λ i j. g i (omega arith)), step (p m) (q m) (g m (omega arith)))

either : (b : Bool) → (b ≡ true) ⊎ (b ≡ false)
either true = inl refl
either false = inr refl

module _ (p : ProblemView) (u : ℕ) where
  before-trans : (a b c : ℕ) → precedes p u a b ≡ true → precedes p u b c ≡ true → precedes p u a c ≡ true
  before-trans a b c h k = pairs (alt_cost p u a) (alt_cost p u b) (alt_cost p u c) a b c h k
    where
      pairs : (d e f x y z : ℕ) → (nat_lt d e || (d == e && nat_lt x y)) ≡ true → (nat_lt e f || (e == f && nat_lt y z)) ≡ true →
          (nat_lt d f || (d == f && nat_lt x z)) ≡ true
      pairs d e f x y z g i = grind (arith, common_steps)

  before-other : (a b : ℕ) → (b ≡ a → ⊥) → precedes p u b a ≡ false → precedes p u a b ≡ true
  before-other a b ne h = pairs (alt_cost p u a) (alt_cost p u b) a b ne h
    where
      pairs : (d e x y : ℕ) → (y ≡ x → ⊥) → (nat_lt e d || (e == d && nat_lt y x)) ≡ false → (nat_lt d e || (d == e && nat_lt x y)) ≡ true
      pairs d e x y n g = grind (arith, common_steps)

  before-self : (a : ℕ) → precedes p u a a ≡ false
  before-self a = pairs (alt_cost p u a) a
    where
      pairs : (d x : ℕ) → (nat_lt d d || (d == d && nat_lt x x)) ≡ false
      pairs d x = grind (arith, common_steps)

  before-le : (a b : ℕ) → precedes p u a b ≡ true → alt_cost p u a ≤ alt_cost p u b
  before-le a b h = pairs (alt_cost p u a) (alt_cost p u b) a b h
    where
      pairs : (d e x y : ℕ) → (nat_lt d e || (d == e && nat_lt x y)) ≡ true → d ≤ e
      pairs d e x y g = grind (arith, common_steps)

  before-less : (a b : ℕ) → b < a → precedes p u a b ≡ true → alt_cost p u a < alt_cost p u b
  before-less a b l h = pairs (alt_cost p u a) (alt_cost p u b) a b l h
    where
      pairs : (d e x y : ℕ) → y < x → (nat_lt d e || (d == e && nat_lt x y)) ≡ true → d < e
      pairs d e x y k g = grind (arith, common_steps)

  -- one alternative more that is not the next one
  pub next_kept : (last next : Option ℕ) (n : ℕ) → IsNextBelow p u last n next →
      (follows p u last n ≡ true → leads p u n next ≡ true → ⊥) → IsNextBelow p u last (n + 1) next
  next_kept last None n h worse = λ b l f. elim (cases_lt b n) [
    | inl below ↦ h b below f
    | inr more ↦ let e : b ≡ n = omega arith in worse (rw e at f) refl
  ]
  next_kept last (Some a) n h worse = record {
    there = omega (arith, h.there);
    later = h.later;
    first = λ b l f ne. elim (cases_lt b n) [
      | inl below ↦ h.first b below f ne
      | inr more ↦
          let e : b ≡ n = omega arith in
          elim (either (precedes p u n a)) [
            | inl leads ↦ absurd (worse (rw e at f) leads)
            | inr not ↦ before-other a b ne (rw e not)
          ]
    ];
  }

  -- one alternative more that is
  pub next_new : (last next : Option ℕ) (n : ℕ) → IsNextBelow p u last n next → follows p u last n ≡ true → leads p u n next ≡ true →
      IsNextBelow p u last (n + 1) (Some n)
  next_new last None n h f l = record {
    there = omega arith;
    later = f;
    first = λ b i g ne. let below : b < n = omega arith in absurd (h b below g);
  }
  next_new last (Some a) n h f l = record {
    there = omega arith;
    later = f;
    first = λ b i g ne. let below : b < n = omega arith in
        elim (cases_lt b a) [
          | inl less ↦ before-trans n a b l (h.first b below g (λ e. absurd (omega arith)))
          | inr more ↦ elim (cases_lt a b) [
            | inl above ↦ before-trans n a b l (h.first b below g (λ e. absurd (omega arith)))
            | inr same ↦ let e : b ≡ a = omega arith in rw e l
          ]
        ];
  }

  pub next_there : (last next : Option ℕ) (n : ℕ) → IsNextBelow p u last n next → ForSome next (λ a. a < n)
  next_there last None n h = λ x e. absurd (cc e)
  next_there last (Some a) n h = λ x e. let same : a ≡ x = cc e in omega (arith, same, h.there)

  -- what passes a test that the first ones do not is the next one or comes after it
  pub from_first : (next : Option ℕ) → IsNextBelow p u None (alt_count p u) next → (b : ℕ) → b < alt_count p u → AreFrom p u next b
  from_first None h b l = h b l refl
  from_first (Some a) h b l = λ ne. h.first b l refl ne

  pub from_next : (a : ℕ) (next : Option ℕ) → IsNextBelow p u (Some a) (alt_count p u) next → (b : ℕ) → b < alt_count p u → (b ≡ a → ⊥) →
      AreFrom p u (Some a) b → AreFrom p u next b
  from_next a None h b l ne f = h b l (f ne)
  from_next a (Some c) h b l ne f = λ other. h.first b l (f ne) other

  pub fewer_to_try : (a : ℕ) (next : Option ℕ) → IsNextBelow p u (Some a) (alt_count p u) next → still_to_try p u next < still_to_try p u (Some a)
  fewer_to_try a None h = omega arith
  fewer_to_try a (Some b) h =
      let less = count_below-less (alt_count p u) b (λ c. precedes p u b c) (λ c. precedes p u a c)
      (λ i l f. before-trans a b i h.later f) h.there (before-self b) h.later in
      omega (arith, less)

  -- the first one that fits is the cheapest that fits, the lowest on ties
  pub first_fitting : (loads : ℕ → ℕ) (a : ℕ) → a < alt_count p u → FitsOn p loads u a →
      ((b : ℕ) → b < alt_count p u → FitsOn p loads u b → AreFrom p u (Some a) b) → IsGreedyAlt p loads u a
  first_fitting loads a l f h = record {
    there = l;
    fits = f;
    least = λ b i g. elim (cases_lt b a) [
      | inl less ↦ before-le a b (h b i g (λ e. absurd (omega arith)))
      | inr more ↦ elim (cases_lt a b) [
        | inl above ↦ before-le a b (h b i g (λ e. absurd (omega arith)))
        | inr same ↦ let e : a ≡ b = omega arith in rw e (omega arith)
      ]
    ];
    first = λ b i g. before-less a b i (h b (omega (arith, i, l)) g (λ e. absurd (omega arith)));
  }
