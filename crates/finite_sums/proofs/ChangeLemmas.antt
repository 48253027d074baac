-- Sums in which one term changes, and how great they are.
use Rattle.std.proofs.Common.{◌≡◌, ℕ, zero, suc, ◌+◌, ◌*◌, ◌<◌, ◌≤◌, arith, inl, inr}
use Rattle.std.proofs.lemmas.Bool.{cases_lt}
use Rattle.finite_sums.specs.Sums.{sum_below}
use Rattle.finite_sums.proofs.SumLemmas.{sum_below-same}

-- a sum in which one term changes
pub sum_below-change : (n k : ℕ) (f g : ℕ → ℕ) → k < n → ((i : ℕ) → i < n → (i ≡ k → ⊥) → f i ≡ g i) → sum_below n f + g k ≡ sum_below n g + f k
sum_below-change zero k f g l h = absurd (omega arith)
sum_below-change (suc n) k f g l h =
    elim (cases_lt k n) [
      | inl below ↦ omega (arith, sum_below-change n k f g below (λ i m ne. h i (omega arith) ne), h n (omega arith) (λ e. omega arith))
      | inr last ↦
          let e : k ≡ n = omega arith in
          rw e (omega (arith, sum_below-same n f g (λ i m. h i (omega arith) (λ d. omega arith))))
    ]

pub sum_below-const : (n m : ℕ) (f : ℕ → ℕ) → ((i : ℕ) → i < n → f i ≤ m) → sum_below n f ≤ n * m
sum_below-const zero m f h = omega arith
sum_below-const (suc n) m f h = omega (arith, sum_below-const n m f (λ i l. h i (omega arith)), h n (omega arith))

-- a term is at most the sum
pub term-le : (n k : ℕ) (f : ℕ → ℕ) → k < n → f k ≤ sum_below n f
term-le zero k f l = absurd (omega arith)
term-le (suc n) k f l = elim (cases_lt k n) [
  | inl below ↦ omega (arith, term-le n k f below)
  | inr last ↦ let e : k ≡ n = omega arith in rw e (omega arith)
]
