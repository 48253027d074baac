-- Uses of resources by where runs begin and end.
use Rattle.std.proofs.Common.{◌≡◌, ℕ, zero, suc, ◌+◌, ◌-◌, ◌<◌, ◌≤◌, ◌^◌, min, refl, ◌∙◌, ap, subst, arith, List, length, set, inl, inr}
use Rattle.std.specs.Prelude.{slice_index}
use Rattle.std.proofs.Math.Path.{fun_ext}
use Rattle.std.proofs.lemmas.Grind.{common_steps}
use Rattle.std.proofs.lemmas.Bool.{cases_lt, cases_eq}
use Rattle.std.proofs.lemmas.List.{get_or-set_same, get_or-set_other, length-set}
use Rattle.finite_sums.specs.Sums.{sum_below}
use Rattle.finite_sums.proofs.SumLemmas.{sum_below-same}
use Rattle.choice_problem.specs.Loops.{run_uses}
use Rattle.dual_bound.specs.Ends.{AreEnds}

-- the same uses
pub AreEnds-same : (n : ℕ) (uses others : ℕ → ℕ) (begins ends : List ℕ) → ((r : ℕ) → uses r ≡ others r) → AreEnds n uses begins ends → AreEnds n others begins ends
AreEnds-same n uses others begins ends e h = subst (λ f. AreEnds n f begins ends) (fun_ext e) h

-- the sum of the first m numbers, of which one is set
sum-set_past : (m k v : ℕ) (xs : List ℕ) → m ≤ k → sum_below m (λ i. slice_index (set xs k v) i) ≡ sum_below m (λ i. slice_index xs i)
sum-set_past m k v xs l = sum_below-same m (λ i. slice_index (set xs k v) i) (λ i. slice_index xs i) (λ i b. get_or-set_other xs k i v 0 (λ e. omega (arith, e, b, l)))

sum-set_in : (m k v : ℕ) (xs : List ℕ) → k < m → k < length xs → v ≡ slice_index xs k + 1 → sum_below m (λ i. slice_index (set xs k v) i) ≡ sum_below m (λ i. slice_index xs i) + 1
sum-set_in zero k v xs l b e = absurd (omega (arith, l))
sum-set_in (suc m) k v xs l b e = elim (cases_lt k m) [
  | inl below ↦ omega (arith, sum-set_in m k v xs below b e, get_or-set_other xs k m v 0 (λ s. omega (arith, s, below)))
  | inr last ↦
      let same : k ≡ m = omega arith in
      let new : slice_index (set xs k v) m ≡ v = rw (← same) (get_or-set_same xs k v 0 b) in
      let old : slice_index xs k ≡ slice_index xs m = ap (λ i. slice_index xs i) same in
      omega (arith, sum-set_past m k v xs last, new, old, e)
]

in_run : (a b r : ℕ) → a ≤ r → r < b → run_uses a b r ≡ 1
in_run a b r l m = grind (arith, common_steps)

before_run : (a b r : ℕ) → r < a → run_uses a b r ≡ 0
before_run a b r l = grind (arith, common_steps)

after_run : (a b r : ℕ) → b ≤ r → run_uses a b r ≡ 0
after_run a b r l = grind (arith, common_steps)

-- one run more
pub AreEnds-run : (n start end b e : ℕ) (uses : ℕ → ℕ) (begins ends : List ℕ) → start < end → end ≤ n →
    b ≡ min (slice_index begins start + 1) (2 ^ 32 - 1) → e ≡ min (slice_index ends end + 1) (2 ^ 32 - 1) →
    ((r : ℕ) → r < n → uses r + run_uses start end r < 2 ^ 32) → AreEnds n uses begins ends →
    AreEnds n (λ r. uses r + run_uses start end r) (set begins start b) (set ends end e)
AreEnds-run n start end b e uses begins ends l m is_b is_e room h = record {
  begin_count = length-set begins start b ∙ h.begin_count;
  end_count = length-set ends end e ∙ h.end_count;
  balance = λ r k. elim (cases_lt r start) [
    | inl before ↦ omega (arith, h.balance r k, sum-set_past (r + 1) start b begins (omega (arith, before)), sum-set_past (r + 1) end e ends (omega (arith, before, l)), before_run start end r before)
    | inr from ↦ elim (cases_lt r end) [
      | inl within ↦ omega (arith, h.balance r k, sum-set_in (r + 1) start b begins (omega (arith, from)) start_there new_b, sum-set_past (r + 1) end e ends (omega (arith, within)), in_run start end r from within)
      | inr after ↦ omega (arith, h.balance r k, sum-set_in (r + 1) start b begins (omega (arith, from)) start_there new_b, sum-set_in (r + 1) end e ends (omega (arith, after)) end_there new_e, after_run start end r after)
    ]
  ];
  few_begins = λ r k. elim (cases_eq r start) [
    | inl same ↦ rw (same, get_or-set_same begins start b 0 start_there, in_run start end start (omega arith) l) (omega (arith, new_b, h.few_begins start (omega (arith, l, m))))
    | inr other ↦ rw (get_or-set_other begins start r b 0 other) (omega (arith, h.few_begins r k))
  ];
  few_ends = λ r k. elim (cases_eq (r + 1) end) [
    | inl same ↦
        let one : run_uses start end r ≡ 1 = in_run start end r (omega (arith, same, l)) (omega (arith, same)) in
        let old : slice_index ends (r + 1) ≡ slice_index ends end = ap (λ i. slice_index ends i) same in
        let new : slice_index (set ends end e) (r + 1) ≡ e = rw same (get_or-set_same ends end e 0 end_there) in
        omega (arith, one, old, new, new_e, h.few_ends r k)
    | inr other ↦ rw (get_or-set_other ends end (r + 1) e 0 other) (omega (arith, h.few_ends r k))
  ];
}
  where
    start_there : start < length begins
    start_there = omega (arith, h.begin_count, l, m)

    end_there : end < length ends
    end_there = omega (arith, h.end_count, m)

    new_b : b ≡ slice_index begins start + 1
    new_b = omega (arith, is_b, h.few_begins start (omega (arith, l, m)), room start (omega (arith, l, m)), in_run start end start (omega arith) l)

    new_e : e ≡ slice_index ends end + 1
    new_e =
        let next : (end - 1) + 1 ≡ end = omega (arith, l) in
        let few : slice_index ends ((end - 1) + 1) ≤ uses (end - 1) = h.few_ends (end - 1) (omega (arith, l, m)) in
        let few' : slice_index ends end ≤ uses (end - 1) = rw next at few in
        omega (arith, is_e, few', room (end - 1) (omega (arith, l, m)), in_run start end (end - 1) (omega (arith, l)) (omega (arith, l)))

zero-sum : (m n : ℕ) (xs : List ℕ) → ((k : ℕ) → k < n → slice_index xs k ≡ 0) → m ≤ n → sum_below m (λ k. slice_index xs k) ≡ 0
zero-sum zero n xs h l = refl
zero-sum (suc m) n xs h l = omega (arith, zero-sum m n xs h (omega (arith, l)), h m (omega (arith, l)))

-- no runs
pub AreEnds-start : (n : ℕ) (begins ends : List ℕ) → length begins ≡ n + 1 → length ends ≡ n + 1 → ((k : ℕ) → k < n + 1 → slice_index begins k ≡ 0) →
    ((k : ℕ) → k < n + 1 → slice_index ends k ≡ 0) → AreEnds n (λ _. 0) begins ends
AreEnds-start n begins ends b e zeros none = record {
  begin_count = b;
  end_count = e;
  balance = λ r l. omega (arith, zero-sum (r + 1) (n + 1) begins zeros (omega (arith, l)), zero-sum (r + 1) (n + 1) ends none (omega (arith, l)));
  few_begins = λ r l. omega (arith, zeros r (omega (arith, l)));
  few_ends = λ r l. omega (arith, none (r + 1) (omega (arith, l)));
}
