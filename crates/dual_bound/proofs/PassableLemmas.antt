-- Lists of resources whose counts are above their limits.
use Rattle.std.proofs.Common.{◌≡◌, ℕ, zero, suc, ◌+◌, ◌<◌, ◌≤◌, ◌^◌, ◌⊎◌, refl, sym, ◌∙◌, ap, arith, List, [], ◌∷◌, ◌++◌, length, inl, inr}
use Rattle.std.specs.Prelude.{slice_index, nat_lt, if◌then◌else◌}
use Rattle.std.proofs.lemmas.Grind.{common_steps}
use Rattle.std.proofs.lemmas.Bool.{cases_lt, cases_eq}
use Rattle.std.proofs.lemmas.List.{length-append, get_or_append_left, get_or_push}
use Rattle.finite_sums.specs.Sums.{sum_below}
use Rattle.finite_sums.proofs.SumLemmas.{sum_below-same}
use Rattle.choice_problem.specs.Problems.{ProblemView, unit_count, resource_count, alt_uses, limit_of}
use Rattle.dual_bound.specs.Kept.{AreAbove, IsNeverPassed, HasListedEqual, ListPassable}
use Rattle.dual_bound.specs.Classes.{AreFirsts, AreFirstOnes, IsAmong}
use Rattle.dual_bound.proofs.GroupLemmas.{uses-first}

pub AreAbove-push : (p : ProblemView) (counts : List ℕ) (n : ℕ) (list : List ℕ) → limit_of p n < 2 ^ 20 → AreAbove p counts n list → AreAbove p counts (n + 1) (list ++ n ∷ [])
AreAbove-push p counts n list small a = record {
  rising = λ i j l m. elim (cases_lt j (length list)) [
    | inl below ↦ rw (before i (omega arith), before j below) (a.rising i j l below)
    | inr last ↦
        let e : length list ≡ j = omega (arith, m, last, length-append list (n ∷ [])) in
        rw (before i (omega (arith, e, l)), new j e) (a.there i (omega (arith, e, l)))
  ];
  there = λ i m. elim (cases_lt i (length list)) [
    | inl below ↦ let t : slice_index list i < n = a.there i below in rw (before i below) (omega (arith, t))
    | inr last ↦ let e : length list ≡ i = omega (arith, m, last, length-append list (n ∷ [])) in rw (new i e) (omega arith)
  ];
  rest = λ r l o. elim (cases_lt r n) [
    | inl below ↦ a.rest r below (λ i m e. o i (omega (arith, m, length-append list (n ∷ []))) (before i m ∙ e))
    | inr last ↦ absurd (o (length list) (omega (arith, length-append list (n ∷ []))) (new (length list) refl ∙ omega (arith, l, last)))
  ];
  small = λ r l. elim (cases_lt r n) [
    | inl below ↦ a.small r below
    | inr last ↦ let e : n ≡ r = omega arith in rw (← e) small
  ];
}
  where
    before : (i : ℕ) → i < length list → slice_index (list ++ n ∷ []) i ≡ slice_index list i
    before i l = get_or_append_left list (n ∷ []) 0 i l

    new : (i : ℕ) → length list ≡ i → slice_index (list ++ n ∷ []) i ≡ n
    new i e = get_or_push list n 0 i e

pub AreAbove-same : (p : ProblemView) (counts : List ℕ) (n : ℕ) (list : List ℕ) → limit_of p n < 2 ^ 20 → slice_index counts n ≤ limit_of p n → AreAbove p counts n list →
    AreAbove p counts (n + 1) list
AreAbove-same p counts n list small low a = record {
  rising = a.rising;
  there = λ i m. let t : slice_index list i < n = a.there i m in omega (arith, t);
  rest = λ r l o. elim (cases_lt r n) [
    | inl below ↦ a.rest r below o
    | inr last ↦ let e : n ≡ r = omega arith in rw (← e) low
  ];
  small = λ r l. elim (cases_lt r n) [
    | inl below ↦ a.small r below
    | inr last ↦ let e : n ≡ r = omega arith in rw (← e) small
  ];
}

-- the first of equal resources among those of a list
pub AreFirstOnes-none : (firsts list : List ℕ) → AreFirstOnes firsts list 0 []
AreFirstOnes-none firsts list = record {
  rising = λ _ i j l m. absurd (omega arith);
  place = λ i. i;
  from = λ i m. absurd (omega arith);
  is = λ i m. absurd (omega arith);
  all = λ i m _. absurd (omega arith);
}

pub AreFirstOnes-push : (firsts list : List ℕ) (n : ℕ) (ones : List ℕ) → n < length list → AreFirstOnes firsts list n ones →
    AreFirstOnes firsts list (n + 1) (ones ++ slice_index list n ∷ [])
AreFirstOnes-push firsts list n ones there a = record {
  rising = λ rising i j l m. elim (cases_lt j (length ones)) [
    | inl below ↦ rw (before i (omega arith), before j below) (a.rising rising i j l below)
    | inr last ↦
        let e : length ones ≡ j = omega (arith, m, last, count) in
        let k : i < length ones = omega (arith, e, l) in
        rw (before i k, new j e, a.is i k) (rising (a.place i) n (a.from i k) there)
  ];
  place = λ i. if nat_lt i (length ones) then a.place i else n;
  from = λ i m. elim (cases_lt i (length ones)) [
    | inl below ↦ let e = chosen i (length ones) (a.place i) n below in omega (arith, e, a.from i below)
    | inr last ↦ let e = other i (length ones) (a.place i) n last in omega (arith, e)
  ];
  is = λ i m. elim (cases_lt i (length ones)) [
    | inl below ↦ before i below ∙ a.is i below ∙ ap (λ k. slice_index list k) (sym (chosen i (length ones) (a.place i) n below))
    | inr last ↦
        let e : length ones ≡ i = omega (arith, m, last, count) in
        new i e ∙ ap (λ k. slice_index list k) (sym (other i (length ones) (a.place i) n last))
  ];
  all = λ i m e. elim (cases_lt i n) [
    | inl below ↦
        let h = a.all i below e in
        record { place = h.place; there = omega (arith, h.there, count); is = before h.place h.there ∙ h.is }
    | inr last ↦
        let same : n ≡ i = omega (arith, m, last) in
        record { place = length ones; there = omega (arith, count); is = new (length ones) refl ∙ ap (λ k. slice_index list k) same }
  ];
}
  where
    count : length (ones ++ slice_index list n ∷ []) ≡ length ones + 1
    count = length-append ones (slice_index list n ∷ [])

    before : (i : ℕ) → i < length ones → slice_index (ones ++ slice_index list n ∷ []) i ≡ slice_index ones i
    before i l = get_or_append_left ones (slice_index list n ∷ []) 0 i l

    new : (i : ℕ) → length ones ≡ i → slice_index (ones ++ slice_index list n ∷ []) i ≡ slice_index list n
    new i e = get_or_push ones (slice_index list n) 0 i e

    chosen : (i n a b : ℕ) → i < n → (if nat_lt i n then a else b) ≡ a
    chosen i n a b l = grind (arith, common_steps)

    other : (i n a b : ℕ) → n ≤ i → (if nat_lt i n then a else b) ≡ b
    other i n a b l = grind (arith, common_steps)

pub AreFirstOnes-same : (firsts list : List ℕ) (n : ℕ) (ones : List ℕ) → (slice_index firsts (slice_index list n) ≡ slice_index list n → ⊥) →
    AreFirstOnes firsts list n ones → AreFirstOnes firsts list (n + 1) ones
AreFirstOnes-same firsts list n ones differs a = record {
  rising = a.rising;
  place = a.place;
  from = λ i m. omega (arith, a.from i m);
  is = a.is;
  all = λ i m e. elim (cases_lt i n) [
    | inl below ↦ a.all i below e
    | inr last ↦ let same : n ≡ i = omega (arith, m, last) in absurd (differs (rw (← same) at e))
  ];
}

-- a resource is among the first n of a list, or not
among : (list : List ℕ) (n r : ℕ) → IsAmong list n r ⊎ ((i : ℕ) → i < n → slice_index list i ≡ r → ⊥)
among list zero r = inr (λ i l e. omega (arith, l))
among list (suc n) r = elim (among list n r) [
  | inl found ↦ inl (record { place = found.place; there = omega (arith, found.there); is = found.is })
  | inr none ↦ elim (cases_eq (slice_index list n) r) [
    | inl here ↦ inl (record { place = n; there = omega arith; is = here })
    | inr other ↦ inr (λ i l e. elim (cases_lt i n) [
      | inl below ↦ none i below e
      | inr last ↦ let same : i ≡ n = omega (arith, l, last) in other (ap (λ k. slice_index list k) (sym same) ∙ e)
    ])
  ]
]

-- a list beside which no resource can be passed, and of it the first of equal ones
module _ (p : ProblemView) (list : List ℕ)
    (rising : (i j : ℕ) → i < j → j < length list → slice_index list i < slice_index list j)
    (there : (i : ℕ) → i < length list → slice_index list i < resource_count p)
    (rest : (r : ℕ) → r < resource_count p → ((i : ℕ) → i < length list → slice_index list i ≡ r → ⊥) → IsNeverPassed p r) where
  pub ListPassable-all : ListPassable p list
  ListPassable-all = record { rising = rising; there = there; rest = λ r l o. inl (rest r l o) }

  module _ (firsts ones : List ℕ) (f : AreFirsts p firsts) (a : AreFirstOnes firsts list (length list) ones) where
    never-alike : (r : ℕ) → r < resource_count p → IsNeverPassed p (slice_index firsts r) → IsNeverPassed p r
    never-alike r l h = λ x c.
        let same : sum_below (unit_count p) (λ u. alt_uses p u (x u) (slice_index firsts r)) ≡ sum_below (unit_count p) (λ u. alt_uses p u (x u) r) =
        sum_below-same (unit_count p) (λ u. alt_uses p u (x u) (slice_index firsts r)) (λ u. alt_uses p u (x u) r) (λ u m. uses-first p firsts u (x u) r f l) in
        omega (arith, h x c, same, f.limits r l)

    rest-of : (r : ℕ) → r < resource_count p → ((i : ℕ) → i < length ones → slice_index ones i ≡ r → ⊥) →
        IsNeverPassed p r ⊎ HasListedEqual p ones r
    rest-of r l o = elim (among list (length list) (slice_index firsts r)) [
      | inr none ↦ inl (never-alike r l (rest (slice_index firsts r) (omega (arith, f.low r l, l)) none))
      | inl found ↦
          let own : slice_index firsts (slice_index list found.place) ≡ slice_index list found.place = rw found.is (f.one r l) in
          let one = a.all found.place found.there own in
          let is : slice_index ones one.place ≡ slice_index firsts r = one.is ∙ found.is in
          let lower : slice_index ones one.place < r = elim (cases_eq (slice_index ones one.place) r) [
            | inl e ↦ absurd (o one.place one.there e)
            | inr n ↦ omega (arith, is, f.low r l, n)
          ] in
          inr (record {
            place = one.place;
            there = one.there;
            lower = lower;
            limit = ap (λ q. limit_of p q) is ∙ f.limits r l;
            uses = λ u b. ap (λ q. alt_uses p u b q) is ∙ uses-first p firsts u b r f l;
          })
    ]

    pub ListPassable-ones : ListPassable p ones
    ListPassable-ones = record {
      rising = a.rising rising;
      there = λ i m. rw (a.is i m) (there (a.place i) (a.from i m));
      rest = rest-of;
    }
