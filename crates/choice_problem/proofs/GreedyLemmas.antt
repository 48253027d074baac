-- The greedy choice is feasible, and there is one at most.
use Rattle.std.proofs.Common.{◌≡◌, ℕ, zero, suc, ◌<◌, ◌≤◌, refl, sym, ◌∙◌, ap, arith, List, length, Option, Some, None, inl, inr}
use Rattle.std.specs.Prelude.{slice_index}
use Rattle.std.proofs.lemmas.Bool.{cases_lt}
use Rattle.choice_problem.specs.Problems.{ProblemView, unit_count, resource_count, alt_cost, alt_uses, limit_of}
use Rattle.choice_problem.specs.Choices.{IsFeasible, choice_cost}
use Rattle.choice_problem.specs.Greedy.{load_before, FitsOn, IsBestBelow, IsGreedy, GreedyStops, IsGreedyCost}
use Rattle.finite_sums.proofs.SumLemmas.{sum_below-same}

-- the loads of the first units stay within the limits
greedy_loads : (p : ProblemView) (m n : ℕ) (x : List ℕ) → IsGreedy p m x → n ≤ m → (r : ℕ) → r < resource_count p → load_before p x n r ≤ limit_of p r
greedy_loads p m zero x g l r i = omega arith
greedy_loads p m (suc n) x g l r i = omega (arith, (g.each n (omega arith)).fits r i)

pub IsGreedy-feasible : (p : ProblemView) (x : List ℕ) → IsGreedy p (unit_count p) x → IsFeasible p x
IsGreedy-feasible p x g = record {
  choice = record { length = g.length; there = λ u l. (g.each u l).there };
  fits = λ r l. greedy_loads p (unit_count p) (unit_count p) x g (omega arith) r l;
}

-- loads count only where they are the same
pub FitsOn-same : (p : ProblemView) (f g : ℕ → ℕ) (u a : ℕ) → ((r : ℕ) → r < resource_count p → f r ≡ g r) → FitsOn p f u a → FitsOn p g u a
FitsOn-same p f g u a same h = λ r l. omega (arith, same r l, h r l)

-- on the same loads a unit has one best alternative
pub IsBestBelow-only : (p : ProblemView) (f g : ℕ → ℕ) (u n a b : ℕ) → ((r : ℕ) → r < resource_count p → f r ≡ g r) →
    IsBestBelow p f u n a → IsBestBelow p g u n b → a ≡ b
IsBestBelow-only p f g u n a b same h k =
    let back : (r : ℕ) → r < resource_count p → g r ≡ f r = λ r l. sym (same r l) in
    elim (cases_lt a b) [
      | inl below ↦ absurd (omega (arith, k.first a below (FitsOn-same p f g u a same h.fits), h.least b k.there (FitsOn-same p g f u b back k.fits)))
      | inr more ↦ elim (cases_lt b a) [
        | inl above ↦ absurd (omega (arith, h.first b above (FitsOn-same p g f u b back k.fits), k.least a h.there (FitsOn-same p f g u a same h.fits)))
        | inr less ↦ omega arith
      ]
    ]

module _ (p : ProblemView) (m n : ℕ) (x y : List ℕ) (g : IsGreedy p m x) (h : IsGreedy p n y) where
  -- two greedy choices agree on the units that both have
  agree : (k : ℕ) → k ≤ m → k ≤ n → (u : ℕ) → u < k → slice_index x u ≡ slice_index y u
  agree zero l i u b = absurd (omega arith)
  agree (suc k) l i u b =
      let before : (v : ℕ) → v < k → slice_index x v ≡ slice_index y v = agree k (omega arith) (omega arith) in
      elim (cases_lt u k) [
        | inl below ↦ before u below
        | inr last ↦
            let e : u ≡ k = omega arith in
            rw e (IsBestBelow-only p (λ r. load_before p x k r) (λ r. load_before p y k r) k _ (slice_index x k) (slice_index y k)
            (λ r j. same_loads k before r) (g.each k (omega arith)) (h.each k (omega arith)))
      ]
    where
      same_loads : (j : ℕ) → ((v : ℕ) → v < j → slice_index x v ≡ slice_index y v) → (r : ℕ) → load_before p x j r ≡ load_before p y j r
      same_loads j b' r = sum_below-same j (λ v. alt_uses p v (slice_index x v) r) (λ v. alt_uses p v (slice_index y v) r) (λ v q. ap (λ a. alt_uses p v a r) (b' v q))

  pub same_load_before : (k : ℕ) → k ≤ m → k ≤ n → (r : ℕ) → load_before p x k r ≡ load_before p y k r
  same_load_before k l i r =
      sum_below-same k (λ v. alt_uses p v (slice_index x v) r) (λ v. alt_uses p v (slice_index y v) r) (λ v q. ap (λ a. alt_uses p v a r) (agree k l i v q))

  pub same_cost : unit_count p ≤ m → unit_count p ≤ n → choice_cost p x ≡ choice_cost p y
  same_cost l i =
      sum_below-same (unit_count p) (λ v. alt_cost p v (slice_index x v)) (λ v. alt_cost p v (slice_index y v))
      (λ v q. ap (λ a. alt_cost p v a) (agree (unit_count p) l i v q))

-- where some unit finds no alternative there is no greedy choice
stops_none : (p : ProblemView) (x y : List ℕ) → GreedyStops p x → IsGreedy p (unit_count p) y → ⊥
stops_none p x y s g =
    let n : ℕ = length x in
    s.none (slice_index y n) (g.each n s.there).there
    (FitsOn-same p (λ r. load_before p y n r) (λ r. load_before p x n r) n (slice_index y n)
    (λ r l. same_load_before p (unit_count p) n y x g s.before n (omega (arith, s.there)) (omega arith) r) (g.each n s.there).fits)

pub IsGreedyCost-only : (p : ProblemView) (one other : Option ℕ) → IsGreedyCost p one → IsGreedyCost p other → one ≡ other
IsGreedyCost-only p None None h k = refl
IsGreedyCost-only p None (Some g) h k = absurd (stops_none p h.0 k.0 h.1 k.1)
IsGreedyCost-only p (Some f) None h k = absurd (stops_none p k.0 h.0 k.1 h.1)
IsGreedyCost-only p (Some f) (Some g) h k =
    ap Some (sym h.2 ∙ same_cost p (unit_count p) (unit_count p) h.0 k.0 h.1 k.1 (omega arith) (omega arith) ∙ k.2)
