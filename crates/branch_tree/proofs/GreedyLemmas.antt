-- The greedy choice, one unit at a time.
use Rattle.std.proofs.Common.{◌≡◌, ℕ, zero, suc, ◌+◌, ◌<◌, ◌≤◌, sym, ◌∙◌, ap, arith, List, [], ◌∷◌, ◌++◌, length, inl, inr, length-append}
use Rattle.std.specs.Prelude.{slice_index}
use Rattle.std.proofs.lemmas.Bool.{cases_lt}
use Rattle.std.proofs.lemmas.List.{get_or_append_left, get_or_at}
use Rattle.choice_problem.specs.Problems.{ProblemView, unit_count, resource_count, alt_count, alt_uses, limit_of}
use Rattle.choice_problem.specs.Greedy.{FitsOn, IsGreedyAlt, IsGreedy, GreedyStops, load_before}
use Rattle.finite_sums.proofs.SumLemmas.{sum_below-same, sum_below-more}
use Rattle.window_counts.specs.Placed.{KeepsLimits}

-- what fits on some loads fits on the same loads
FitsOn-same : (p : ProblemView) (f g : ℕ → ℕ) (u a : ℕ) → ((r : ℕ) → r < resource_count p → f r ≡ g r) → FitsOn p f u a → FitsOn p g u a
FitsOn-same p f g u a same h = λ r l. omega (arith, h r l, same r l)

IsGreedyAlt-same : (p : ProblemView) (f g : ℕ → ℕ) (u a : ℕ) → ((r : ℕ) → r < resource_count p → f r ≡ g r) → IsGreedyAlt p f u a → IsGreedyAlt p g u a
IsGreedyAlt-same p f g u a same h = record {
  there = h.there;
  fits = FitsOn-same p f g u a same h.fits;
  least = λ b l k. h.least b l (FitsOn-same p g f u b (λ r i. sym (same r i)) k);
  first = λ b l k. h.first b l (FitsOn-same p g f u b (λ r i. sym (same r i)) k);
}

-- the loads of the first units are those of a longer choice
load_before-push : (p : ProblemView) (x : List ℕ) (a n r : ℕ) → n ≤ length x → load_before p (x ++ a ∷ []) n r ≡ load_before p x n r
load_before-push p x a n r l =
    sum_below-same n (λ u. alt_uses p u (slice_index (x ++ a ∷ []) u) r) (λ u. alt_uses p u (slice_index x u) r)
    (λ u i. ap (λ v. alt_uses p u v r) (get_or_append_left x (a ∷ []) 0 u (omega arith)))

-- one unit more
pub IsGreedy-push : (p : ProblemView) (loads : ℕ → ℕ) (n : ℕ) (x : List ℕ) (a : ℕ) → IsGreedy p n x →
    ((r : ℕ) → r < resource_count p → loads r ≡ load_before p x n r) → IsGreedyAlt p loads n a → IsGreedy p (n + 1) (x ++ a ∷ [])
IsGreedy-push p loads n x a g same h = record {
  length = length-append x (a ∷ []) ∙ ap (λ m. m + 1) g.length;
  each = λ u l. elim (cases_lt u n) [
    | inl below ↦
        let at : slice_index (x ++ a ∷ []) u ≡ slice_index x u = get_or_append_left x (a ∷ []) 0 u (omega (arith, g.length)) in
        rw at (IsGreedyAlt-same p (λ r. load_before p x u r) (λ r. load_before p (x ++ a ∷ []) u r) u (slice_index x u)
        (λ r i. sym (load_before-push p x a u r (omega (arith, g.length)))) (g.each u below))
    | inr last ↦
        let e : u ≡ n = omega arith in
        let at : slice_index (x ++ a ∷ []) n ≡ a = get_or_at x a [] 0 n g.length in
        rw (e, at) (IsGreedyAlt-same p loads (λ r. load_before p (x ++ a ∷ []) n r) n a
        (λ r i. same r i ∙ sym (load_before-push p x a n r (omega (arith, g.length)))) h)
  ];
}

pub load_before-more : (p : ProblemView) (loads : ℕ → ℕ) (n : ℕ) (x : List ℕ) (a r m : ℕ) → length x ≡ n → loads r ≡ load_before p x n r →
    m ≡ loads r + alt_uses p n a r → m ≡ load_before p (x ++ a ∷ []) (n + 1) r
load_before-more p loads n x a r m e same more =
    let at : slice_index (x ++ a ∷ []) n ≡ a = get_or_at x a [] 0 n e in
    let step = sum_below-more n (λ u. alt_uses p u (slice_index (x ++ a ∷ []) u) r) in
    omega (arith, step, load_before-push p x a n r (omega arith), same, more, ap (λ v. alt_uses p n v r) at)

-- a unit that finds none
pub GreedyStops-at : (p : ProblemView) (loads : ℕ → ℕ) (n : ℕ) (x : List ℕ) → IsGreedy p n x → n < unit_count p →
    ((r : ℕ) → r < resource_count p → loads r ≡ load_before p x n r) → ((a : ℕ) → a < alt_count p n → FitsOn p loads n a → ⊥) → GreedyStops p x
GreedyStops-at p loads n x g l same none = record {
  before = rw g.length g;
  there = omega (arith, g.length);
  none = rw g.length (λ a i f. none a i (FitsOn-same p (λ r. load_before p x n r) loads n a (λ r k. sym (same r k)) f));
}

-- the loads of the units that have chosen keep the limits
loads_within : (p : ProblemView) (n : ℕ) (x : List ℕ) → IsGreedy p n x → (r : ℕ) → r < resource_count p → load_before p x n r ≤ limit_of p r
loads_within p zero x g r l = omega arith
loads_within p (suc n) x g r l = omega (arith, (g.each n (omega arith)).fits r l)

pub greedy-keeps : (p : ProblemView) (n : ℕ) (x counts : List ℕ) → IsGreedy p n x → length counts ≡ resource_count p →
    ((r : ℕ) → r < length counts → slice_index counts r ≡ load_before p x n r) → KeepsLimits p counts
greedy-keeps p n x counts g e h = record {
  length = e;
  within = λ r l. omega (arith, h r (omega arith), loads_within p n x g r l);
}
