-- Uses at the prices that a function gives to the resources below a number.
use Rattle.std.proofs.Common.{◌≡◌, ℕ, zero, suc, ◌+◌, ◌*◌, ◌<◌, ◌≤◌, refl, sym, ◌∙◌, ap, arith, List, length, inl, inr}
use Rattle.std.specs.Prelude.{if◌then◌else◌, nat_lt, slice_index, ◌≢◌}
use Rattle.std.proofs.lemmas.Bool.{cases_lt}
use Rattle.std.proofs.lemmas.Nat.{mul-le}
use Rattle.std.proofs.lemmas.Grind.{common_steps}
use Rattle.choice_problem.specs.declared.strips.Strip.{Strip}
use Rattle.finite_sums.specs.Sums.{sum_below}
use Rattle.choice_problem.specs.Loops.{run_uses}
use Rattle.choice_problem.specs.Strips.{run_start, is_in_run, strip_uses, IsStripInRange}
use Rattle.finite_sums.proofs.SumLemmas.{sum_below-same}
use Rattle.price_table.specs.Strips.{worth, AreSums, run_cost, strip_cost}

pub worth-same : (n : ℕ) (f g uses other : ℕ → ℕ) → ((r : ℕ) → r < n → f r ≡ g r) → ((r : ℕ) → r < n → uses r ≡ other r) → worth n f uses ≡ worth n g other
worth-same n f g uses other h k = sum_below-same n (λ r. f r * uses r) (λ r. g r * other r) (λ r l. ap (λ v. v * uses r) (h r l) ∙ ap (λ v. g r * v) (k r l))

pub worth-zero : (n : ℕ) (f : ℕ → ℕ) → worth n f (λ _. 0) ≡ 0
worth-zero zero f = refl
worth-zero (suc n) f = omega (arith, worth-zero n f)

pub worth-free : (n : ℕ) (uses : ℕ → ℕ) → worth n (λ _. 0) uses ≡ 0
worth-free zero uses = refl
worth-free (suc n) uses = omega (arith, worth-free n uses)

pub worth-add : (n : ℕ) (f uses more : ℕ → ℕ) → worth n f (λ r. uses r + more r) ≡ worth n f uses + worth n f more
worth-add zero f uses more = refl
worth-add (suc n) f uses more = omega (arith, worth-add n f uses more)

-- the worth of a sum of uses is the sum of their worths
pub worth-sum_below : (n m : ℕ) (f : ℕ → ℕ) (uses : ℕ → ℕ → ℕ) → worth n f (λ r. sum_below m (λ i. uses i r)) ≡ sum_below m (λ i. worth n f (uses i))
worth-sum_below n zero f uses = worth-zero n f
worth-sum_below n (suc m) f uses = worth-add n f (λ r. sum_below m (λ i. uses i r)) (uses m) ∙ ap (λ v. v + worth n f (uses m)) (worth-sum_below n m f uses)

pub worth-le : (n price most : ℕ) (f uses : ℕ → ℕ) → ((r : ℕ) → r < n → f r ≤ price) → ((r : ℕ) → r < n → uses r ≤ most) → worth n f uses ≤ n * (price * most)
worth-le zero price most f uses h k = omega arith
worth-le (suc n) price most f uses h k =
    omega (
      arith,
      worth-le n price most f uses (λ r l. h r (omega arith)) (λ r l. k r (omega arith)),
      mul-le (f n) (uses n) price most (h n (omega arith)) (k n (omega arith)),
    )

-- one price more
pub worth-set : (n k v : ℕ) (f g uses : ℕ → ℕ) → k < n → f k ≡ 0 → g k ≡ v → ((r : ℕ) → r ≢ k → g r ≡ f r) → worth n g uses ≡ worth n f uses + v * uses k
worth-set zero k v f g uses l a b c = absurd (omega arith)
worth-set (suc n) k v f g uses l a b c = elim (cases_lt k n) [
  | inl below ↦ let e : g n ≡ f n = c n (omega arith) in
      omega (arith, worth-set n k v f g uses below a b c, ap (λ t. t * uses n) e)
  | inr last ↦ let e : n ≡ k = omega arith in
      let rest : worth n g uses ≡ worth n f uses = worth-same n g f uses uses (λ r m. c r (omega arith)) (λ r m. refl) in
      let new : g n * uses n ≡ v * uses k = ap (λ t. g t * uses t) e ∙ ap (λ t. t * uses k) b in
      let old : f n * uses n ≡ 0 * uses k = ap (λ t. f t * uses t) e ∙ ap (λ t. t * uses k) a in
      omega (arith, rest, new, old)
]

-- one use of each resource below k
abbrev pub below_uses : ℕ → ℕ → ℕ
below_uses k r = if nat_lt r k then 1 else 0

worth-below_all : (n k : ℕ) (f : ℕ → ℕ) → n ≤ k → worth n f (λ r. below_uses k r) ≡ sum_below n f
worth-below_all n k f l = sum_below-same n (λ r. f r * below_uses k r) f (λ r m. one (f r) r k (omega arith))
  where
    one : (v r' k' : ℕ) → r' < k' → v * below_uses k' r' ≡ v
    one v r' k' m = grind (arith, common_steps)

worth-below : (n k : ℕ) (f : ℕ → ℕ) → k ≤ n → worth n f (λ r. below_uses k r) ≡ sum_below k f
worth-below zero k f l = let e : 0 ≡ k = omega arith in rw (← e) refl
worth-below (suc n) k f l = elim (cases_lt n k) [
  | inl all ↦ let e : suc n ≡ k = omega arith in rw (← e) (worth-below_all (suc n) (suc n) f (omega arith))
  | inr part ↦ omega (arith, worth-below n k f part, none (f n) n k part)
]
  where
    none : (v r' k' : ℕ) → k' ≤ r' → v * below_uses k' r' ≡ 0
    none v r' k' m = grind (arith, common_steps)

run-below : (s e r : ℕ) → s ≤ e → run_uses s e r + below_uses s r ≡ below_uses e r
run-below s e r h = grind (arith, common_steps)

-- a run's worth is the difference of two sums
pub worth-run : (n s e : ℕ) (f : ℕ → ℕ) → s ≤ e → e ≤ n → worth n f (λ r. run_uses s e r) + sum_below s f ≡ sum_below e f
worth-run n s e f l m =
    ap (λ v. worth n f (λ r. run_uses s e r) + v) (sym (worth-below n s f (omega arith)))
    ∙ sym (worth-add n f (λ r. run_uses s e r) (λ r. below_uses s r))
    ∙ worth-same n f f (λ r. run_uses s e r + below_uses s r) (λ r. below_uses e r) (λ r _. refl) (λ r _. run-below s e r l)
    ∙ worth-below n e f m

-- the prices of a strip and of a part, by sums
pub strip_cost-is : (numbers sums : List ℕ) (s : Strip) → AreSums numbers sums → IsStripInRange (length numbers) s →
    strip_cost sums s ≡ worth (length numbers) (λ r. slice_index numbers r) (λ r. strip_uses s r)
strip_cost-is numbers sums s h there =
    sum_below-same s.times (λ i. run_cost sums s i) (λ i. worth (length numbers) (λ r. slice_index numbers r) (λ r. run_uses (run_start s i) (run_start s i + s.width) r)) (λ i l. one i (there i l))
    ∙ sym (worth-sum_below (length numbers) s.times (λ r. slice_index numbers r) (λ i r. if is_in_run s r i then 1 else 0))
  where
    one : (i : ℕ) → run_start s i + s.width ≤ length numbers →
        run_cost sums s i ≡ worth (length numbers) (λ r. slice_index numbers r) (λ r. run_uses (run_start s i) (run_start s i + s.width) r)
    one i m =
        let price : ℕ → ℕ = λ r. slice_index numbers r in
        let a : slice_index sums (run_start s i) ≡ sum_below (run_start s i) price = h.each (run_start s i) (omega arith) in
        let b : slice_index sums (run_start s i + s.width) ≡ sum_below (run_start s i + s.width) price = h.each (run_start s i + s.width) m in
        let d : worth (length numbers) price (λ r. run_uses (run_start s i) (run_start s i + s.width) r) + sum_below (run_start s i) price ≡ sum_below (run_start s i + s.width) price =
        worth-run (length numbers) (run_start s i) (run_start s i + s.width) price (omega arith) m in
        omega (arith, a, b, d)
