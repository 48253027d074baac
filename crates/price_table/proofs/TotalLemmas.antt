-- Sums of numbers of which one is replaced, and what totals say of the bound.
use Rattle.std.proofs.Common.{◌≡◌, ℕ, refl, ◌+◌, ◌-◌, ◌<◌, ◌≤◌, ◌^◌, ap, sym, ◌∙◌, arith, pos, List, [], ◌∷◌, ◌++◌, length, set, inl, inr}
use Rattle.std.specs.Prelude.{slice_index, ◌-ℤ◌}
use Rattle.std.proofs.lemmas.Bool.{cases_eq, cases_lt}
use Rattle.std.proofs.lemmas.List.{get_or-set_same, get_or-set_other, length-set, get_or_append_left, get_or_push, length_push}
use Rattle.finite_sums.specs.Sums.{sum_below}
use Rattle.finite_sums.proofs.SumLemmas.{sum_below-same}
use Rattle.finite_sums.proofs.ChangeLemmas.{sum_below-change, sum_below-const, term-le}
use Rattle.choice_problem.specs.declared.vectors.Price.{Price}
use Rattle.choice_problem.specs.Problems.{ProblemView, unit_count}
use Rattle.choice_problem.specs.Bounds.{least_total, bound_of}
use Rattle.price_table.specs.Strips.{unit_least}
use Rattle.price_table.specs.Totals.{TotalsView, AreTotalsFor, AreKeptFor, AreSummed, sum_of}

-- one of the numbers is at most the sum
pub summed-le : (numbers : List ℕ) (total k : ℕ) → AreSummed numbers total → k < length numbers → slice_index numbers k ≤ total
summed-le numbers total k h l = omega (arith, h.total_is, term-le (length numbers) k (λ u. slice_index numbers u) l)

pub summed-small : (numbers : List ℕ) (total : ℕ) → AreSummed numbers total → total < 2 ^ 114
summed-small numbers total h =
    let most = sum_below-const (length numbers) (2 ^ 101) (λ u. slice_index numbers u) (λ u l. let s : slice_index numbers u < 2 ^ 101 = h.small u l in omega arith) in
    omega (arith, h.total_is, h.few, most)

pub summed-set : (numbers : List ℕ) (total k v : ℕ) → AreSummed numbers total → k < length numbers → v < 2 ^ 101 →
    AreSummed (set numbers k v) ((total - slice_index numbers k) + v)
summed-set numbers total k v h l small = record {
  few = rw (length-set numbers k v) h.few;
  small = λ u m. elim (cases_eq u k) [
    | inl e ↦ rw (e, new) small
    | inr o ↦ rw (other u o) (h.small u (rw (length-set numbers k v) at m))
  ];
  total_is = rw (length-set numbers k v) (omega (arith, h.total_is, change, new, summed-le numbers total k h l));
}
  where
    new : slice_index (set numbers k v) k ≡ v
    new = get_or-set_same numbers k v 0 l

    other : (u : ℕ) → (u ≡ k → ⊥) → slice_index (set numbers k v) u ≡ slice_index numbers u
    other u o = get_or-set_other numbers k u v 0 o

    change : sum_below (length numbers) (λ u. slice_index (set numbers k v) u) + slice_index numbers k
        ≡ sum_below (length numbers) (λ u. slice_index numbers u) + slice_index (set numbers k v) k
    change = sum_below-change (length numbers) k (λ u. slice_index (set numbers k v) u) (λ u. slice_index numbers u) l (λ u m o. other u o)

-- the sum of each unit's least costs is the least total
pub totals-sum : (p : ProblemView) (prices : List Price) (t : TotalsView) (total : ℕ) → AreTotalsFor p prices t → AreSummed t.least total →
    total ≡ least_total p t.ranges prices t.scale
totals-sum p prices t total h s =
    let same : sum_below (unit_count p) (λ u. slice_index t.least u) ≡ least_total p t.ranges prices t.scale =
    sum_below-same (unit_count p) (λ u. slice_index t.least u) (λ u. unit_least p t.ranges prices t.scale u) h.each in
    let count : sum_of t.least ≡ sum_below (unit_count p) (λ u. slice_index t.least u) = ap (λ n. sum_below n (λ u. slice_index t.least u)) h.count in
    omega (arith, s.total_is, same, count)

pub totals-bound : (p : ProblemView) (prices : List Price) (t : TotalsView) (total : ℕ) → AreTotalsFor p prices t → AreSummed t.least total →
    pos total -ℤ pos t.limits ≡ bound_of p t.ranges prices t.scale
totals-bound p prices t total h s =
    ap (λ n. pos n -ℤ pos t.limits) (totals-sum p prices t total h s) ∙ ap (λ n. pos (least_total p t.ranges prices t.scale) -ℤ pos n) h.at_limits

-- totals kept for one vector more
abbrev no_totals : TotalsView
no_totals = record { ranges = []; scale = 0; least = []; limits = 0 }

pub kept_push : (p : ProblemView) (vectors : List (List Price)) (ranges : List (ℕ × ℕ)) (totals : List TotalsView) (v : List Price) (t : TotalsView) →
    AreKeptFor p vectors ranges totals → AreTotalsFor p v t → t.ranges ≡ ranges → t.scale ≡ 1024 →
    AreKeptFor p (vectors ++ v ∷ []) ranges (totals ++ t ∷ [])
kept_push p vectors ranges totals v t h f r s = record {
  count = length_push totals t ∙ (ap (λ n. n + 1) h.count ∙ sym (length_push vectors v));
  each = λ k l. elim (cases_lt k (length vectors)) [
    | inl below ↦ rw (get_or_append_left vectors (v ∷ []) [] k below, get_or_append_left totals (t ∷ []) no_totals k (omega (arith, below, h.count))) (h.each k below)
    | inr last ↦
        let e : length vectors ≡ k = omega (arith, l, last, length_push vectors v) in
        rw (get_or_push vectors v [] k e, get_or_push totals t no_totals k (h.count ∙ e)) f
  ];
  at_ranges = λ k l. elim (cases_lt k (length vectors)) [
    | inl below ↦ rw (get_or_append_left totals (t ∷ []) no_totals k (omega (arith, below, h.count))) (h.at_ranges k below)
    | inr last ↦
        let e : length vectors ≡ k = omega (arith, l, last, length_push vectors v) in
        rw (get_or_push totals t no_totals k (h.count ∙ e)) r
  ];
  at_scale = λ k l. elim (cases_lt k (length vectors)) [
    | inl below ↦ rw (get_or_append_left totals (t ∷ []) no_totals k (omega (arith, below, h.count))) (h.at_scale k below)
    | inr last ↦
        let e : length vectors ≡ k = omega (arith, l, last, length_push vectors v) in
        rw (get_or_push totals t no_totals k (h.count ∙ e)) s
  ];
}

pub no_kept : (p : ProblemView) (ranges : List (ℕ × ℕ)) → AreKeptFor p [] ranges []
no_kept p ranges = record {
  count = refl;
  each = λ k l. absurd (omega (arith, l));
  at_ranges = λ k l. absurd (omega (arith, l));
  at_scale = λ k l. absurd (omega (arith, l));
}
