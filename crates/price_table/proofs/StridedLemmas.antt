-- Totals along a gap.
use Rattle.std.proofs.Common.{◌≡◌, ℕ, zero, suc, ◌+◌, ◌-◌, ◌<◌, ◌≤◌, ap, arith, List, length, inl, inr}
use Rattle.std.specs.Prelude.{slice_index}
use Rattle.std.proofs.lemmas.Bool.{cases_lt}
use Rattle.choice_problem.specs.declared.strips.Strip.{Strip}
use Rattle.choice_problem.specs.Strips.{run_start, IsStripInRange}
use Rattle.finite_sums.specs.Sums.{sum_below}
use Rattle.finite_sums.proofs.SumLemmas.{sum_below-same, sum_below-add, sum_below-more_le}
use Rattle.price_table.specs.Strips.{AreSums, run_cost, strip_cost}
use Rattle.price_table.specs.Private.Strided.{IsTotalled, AreGapTotals, strided_cost}

-- sums do not fall
pub AreSums-rising : (numbers sums : List ℕ) → AreSums numbers sums → (i j : ℕ) → i ≤ j → j < length sums → slice_index sums i ≤ slice_index sums j
AreSums-rising numbers sums h i j l m = elim (cases_lt i j) [
  | inl below ↦ omega (arith, h.each i (omega (arith, h.count)), h.each j (omega (arith, h.count)), sum_below-more_le j i (λ r. slice_index numbers r) below)
  | inr same ↦ let e : j ≡ i = omega arith in rw e (omega arith)
]

-- the sum at n places, each a gap after the one before, and the total after them are the total at the first
totals-along : (numbers totals : List ℕ) (gap : ℕ) (place : ℕ → ℕ) → IsTotalled numbers totals gap → ((i : ℕ) → place (suc i) ≡ place i + gap) → (n : ℕ) →
    sum_below n (λ i. slice_index numbers (place i)) + slice_index totals (place n) ≡ slice_index totals (place 0)
totals-along numbers totals gap place h step zero = omega arith
totals-along numbers totals gap place h step (suc n) =
    let next : slice_index totals (place (suc n)) ≡ slice_index totals (place n + gap) = ap (λ k. slice_index totals k) (step n) in
    omega (arith, next, h (place n), totals-along numbers totals gap place h step n)

-- what a strip costs by totals along its gap
pub strided_cost-is : (sums totals : List ℕ) (s : Strip) → AreGapTotals sums totals s.gap → length totals ≡ length sums → 0 < length sums → IsStripInRange (length sums - 1) s →
    strided_cost totals s ≡ strip_cost sums s
strided_cost-is sums totals s h count some there =
    let starts = totals-along sums totals s.gap (λ i. run_start s i) (h.totalled count) (λ i. omega arith) s.times in
    let ends = totals-along sums totals s.gap (λ i. run_start s i + s.width) (h.totalled count) (λ i. omega arith) s.times in
    let both : sum_below s.times (λ i. run_cost sums s i + slice_index sums (run_start s i)) ≡ sum_below s.times (λ i. slice_index sums (run_start s i + s.width)) =
    sum_below-same s.times (λ i. run_cost sums s i + slice_index sums (run_start s i)) (λ i. slice_index sums (run_start s i + s.width))
    (λ i l. omega (arith, h.rising (run_start s i) (run_start s i + s.width) (omega arith) (omega (arith, there i l)))) in
    omega (arith, starts, ends, both, sum_below-add s.times (λ i. run_cost sums s i) (λ i. slice_index sums (run_start s i)))
