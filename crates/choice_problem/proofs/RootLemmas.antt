-- Root vectors: there is one, and its prices are the problem's.
use Rattle.std.proofs.Common.{◌≡◌, ℕ, zero, suc, ◌+◌, ◌*◌, ◌<◌, ◌≤◌, ◌^◌, refl, sym, ◌∙◌, ap, arith, List, [], ◌∷◌, ◌++◌, length, inl, inr, false, pos, ◌<ℤ◌}
use Rattle.std.specs.Prelude.{ℤ, ◌≤ℤ◌, if◌then◌else◌, ◌==◌, slice_index_or, All}
use Rattle.std.proofs.lemmas.Int.{ints, by_lt_z}
use Rattle.std.proofs.lemmas.Bool.{cases_lt}
use Rattle.std.proofs.lemmas.Grind.{common_steps}
use Rattle.std.proofs.lemmas.List.{length-append, get_or_append_left, get_or_push}
use Rattle.std.proofs.lemmas.List.Elements.{All-push}
use Rattle.std.proofs.Math.Nat.{mul-le-mul_left}
use Rattle.choice_problem.specs.declared.vectors.Price.{Price}
use Rattle.finite_sums.specs.Sums.{sum_below}
use Rattle.choice_problem.specs.Problems.{ProblemView, IsChooser, unit_count, resource_count, alt_count, alt_uses}
use Rattle.choice_problem.specs.Bounds.{AreRanges, IsPrice, IsVector, bound_of, low_of, high_of, priced_cost}
use Rattle.choice_problem.specs.Roots.{vector_of, priced_alt, priced_load, step_length, price_after, step_vector, IsNodeVector}
use Rattle.finite_sums.proofs.SumLemmas.{first_least-IsFirstLeast}
use Rattle.choice_problem.proofs.VectorLemmas.{IsVector-nil}

pub IsNodeVector-only : (p : ProblemView) (ranges : List (ℕ × ℕ)) (one other : List Price) → IsNodeVector p ranges one → IsNodeVector p ranges other →
    one ≡ other
IsNodeVector-only p ranges one other h k = h.prices_are ∙ ap (λ j. step_vector p ranges j) same ∙ sym k.prices_are
  where
    bound_at : ℕ → ℤ
    bound_at j = bound_of p ranges (step_vector p ranges j) 1024

    both : (a b : ℤ) → a <ℤ b → b ≤ℤ a → ⊥
    both a b l m = omega (arith, ints)

    same : h.step ≡ k.step
    same = elim (cases_lt h.step k.step) [
      | inl below ↦ absurd (both (bound_at h.step) (bound_at k.step) (k.first h.step below) (h.greatest k.step k.counted))
      | inr more ↦ elim (cases_lt k.step h.step) [
        | inl above ↦ absurd (both (bound_at k.step) (bound_at h.step) (h.first k.step above) (k.greatest h.step h.counted))
        | inr less ↦ omega arith
      ]
    ]

-- a vector with one resource more, which it names where its price is above 0
abbrev pub with_price : List Price → ℕ → ℕ → List Price
with_price prices r price = if price == 0 then prices else prices ++ record { resource = r; price = pos price } ∷ []

not_zero : (v : ℕ) → (suc v == 0) ≡ false
not_zero v = grind (arith, common_steps)

pub with_price-suc : (prices : List Price) (r v : ℕ) → with_price prices r (suc v) ≡ prices ++ record { resource = r; price = pos (suc v) } ∷ []
with_price-suc prices r v = ap (λ b. if b then prices else prices ++ record { resource = r; price = pos (suc v) } ∷ []) (not_zero v)

-- a vector whose resources are all below a number
record IsVectorBelow (p : ProblemView) (n : ℕ) (prices : List Price) : Type 0 where
  vector : IsVector p prices
  below : All (λ e. e.resource < n) prices

IsVectorBelow-push : (p : ProblemView) (n : ℕ) (prices : List Price) (e : Price) → IsPrice p e → e.resource ≡ n → IsVectorBelow p n prices →
    IsVectorBelow p (n + 1) (prices ++ e ∷ [])
IsVectorBelow-push p n prices e h at b = record {
  vector = record {
    rising = λ i j d l m. elim (cases_lt j (length prices)) [
      | inl within ↦ rw (get_or_append_left prices (e ∷ []) d i (omega arith), get_or_append_left prices (e ∷ []) d j within) (b.vector.rising i j d l within)
      | inr last ↦ let k : length prices ≡ j = omega (arith, length-append prices (e ∷ [])) in
          rw (get_or_append_left prices (e ∷ []) d i (omega (arith, k)), get_or_push prices e d j k, at) (b.below i d (omega (arith, k)))
    ];
    each = All-push (IsPrice p) prices e b.vector.each h;
  };
  below = All-push (λ f. f.resource < n + 1) prices e (λ i d l. let t : (slice_index_or prices i d).resource < n = b.below i d l in omega arith) (omega (arith, at));
}

IsVectorBelow-more : (p : ProblemView) (n : ℕ) (prices : List Price) → IsVectorBelow p n prices → IsVectorBelow p (n + 1) prices
IsVectorBelow-more p n prices b = record {
  vector = b.vector;
  below = λ i d l. let t : (slice_index_or prices i d).resource < n = b.below i d l in omega arith;
}

IsVectorBelow-with_price : (p : ProblemView) (n v : ℕ) (prices : List Price) → n < resource_count p → v < 2 ^ 40 → IsVectorBelow p n prices →
    IsVectorBelow p (n + 1) (with_price prices n v)
IsVectorBelow-with_price p n zero prices l m b = IsVectorBelow-more p n prices b
IsVectorBelow-with_price p n (suc v) prices l m b =
    rw (with_price-suc prices n v) (IsVectorBelow-push p n prices (record { resource = n; price = pos (suc v) }) (record { there = l; positive = omega (arith, ints); small = omega (arith, ints) }) refl b)

below_vector_of : (p : ProblemView) (n : ℕ) (f : ℕ → ℕ) → n ≤ resource_count p → ((r : ℕ) → r < n → f r < 2 ^ 40) → IsVectorBelow p n (vector_of n f)
below_vector_of p zero f l h = record { vector = IsVector-nil p; below = λ i d m. absurd (omega arith) }
below_vector_of p (suc n) f l h =
    let e : n + 1 ≡ suc n = omega arith in
    rw e at (IsVectorBelow-with_price p n (f n) (vector_of n f) (omega arith) (h n (omega arith)) (below_vector_of p n f (omega arith) (λ r m. h r (omega arith))))

-- prices below 2 ^ 40 make a vector
pub vector_of-IsVector : (p : ProblemView) (f : ℕ → ℕ) → ((r : ℕ) → r < resource_count p → f r < 2 ^ 40) → IsVector p (vector_of (resource_count p) f)
vector_of-IsVector p f h = (below_vector_of p (resource_count p) f (omega arith) h).vector

-- all lengths of steps together
sum_below-upto : (n m : ℕ) (f : ℕ → ℕ) → n ≤ m → sum_below n f ≤ sum_below m f
sum_below-upto n zero f l = let e : n ≡ 0 = omega arith in rw e (omega arith)
sum_below-upto n (suc m) f l = elim (cases_lt m n) [
  | inl last ↦ let e : n ≡ suc m = omega arith in rw e (omega arith)
  | inr part ↦ omega (arith, sum_below-upto n m f part)
]

all_lengths : sum_below 64 step_length ≡ 261120
all_lengths = refl

pub step_lengths-le : (n : ℕ) → n ≤ 64 → sum_below n step_length ≤ 261120
step_lengths-le n l = omega (arith, sum_below-upto n 64 step_length l, all_lengths)

-- no resource is used more than 434 times a unit
uses_at_most : (n : ℕ) (f : ℕ → ℕ) → ((u : ℕ) → u < n → f u ≤ 434) → sum_below n f ≤ n * 434
uses_at_most zero f h = omega arith
uses_at_most (suc n) f h = omega (arith, uses_at_most n f (λ u l. h u (omega arith)), h n (omega arith))

-- prices after some steps are at most what the steps' lengths and the greatest load make
module _ (p : ProblemView) (ranges : List (ℕ × ℕ)) (few : unit_count p ≤ 4096) (units : All IsChooser p.units) (h : AreRanges p ranges) where
  alt_there : (prices : ℕ → ℕ) (u : ℕ) → u < unit_count p → priced_alt p ranges prices u < alt_count p u
  alt_there prices u l =
      let least = first_least-IsFirstLeast (low_of ranges u) (high_of ranges u) (λ a. priced_cost p (vector_of (resource_count p) prices) 1024 u a) (h.ordered u l) in
      omega (arith, least.to, h.there u l)

  load_top : (prices : ℕ → ℕ) (r : ℕ) → priced_load p ranges prices r ≤ 4096 * 434
  load_top prices r =
      let all : priced_load p ranges prices r ≤ unit_count p * 434 =
      uses_at_most (unit_count p) (λ u. alt_uses p u (priced_alt p ranges prices u) r)
      (λ u l. (units u (record { parts = []; alts = [] }) l).uses (priced_alt p ranges prices u) r (alt_there prices u l)) in
      omega (arith, all)

  price_top : (step r : ℕ) → price_after p ranges step r ≤ sum_below step step_length * (4096 * 434)
  price_top zero r = omega arith
  price_top (suc step) r =
      let rise : step_length step * priced_load p ranges (λ q. price_after p ranges step q) r ≤ step_length step * (4096 * 434) =
      mul-le-mul_left (step_length step) (load_top (λ q. price_after p ranges step q) r) in
      omega (arith, price_top step r, rise)

pub IsNodeVector-IsVector : (p : ProblemView) (ranges : List (ℕ × ℕ)) (prices : List Price) → unit_count p ≤ 4096 → All IsChooser p.units → AreRanges p ranges →
    IsNodeVector p ranges prices → IsVector p prices
IsNodeVector-IsVector p ranges prices few units h v =
    rw v.prices_are
    (vector_of-IsVector p (λ r. price_after p ranges v.step r)
    (λ r _. omega (arith, price_top p ranges few units h v.step r, step_lengths-le v.step v.counted)))

-- of the first numbers, the first at which f is greatest
record IsGreatestUpTo (n : ℕ) (f : ℕ → ℤ) (step : ℕ) : Type 0 where
  counted : step ≤ n
  greatest : (k : ℕ) → k ≤ n → f k ≤ℤ f step
  first : (k : ℕ) → k < step → f k <ℤ f step

greatest_same : (a b : ℤ) → a ≡ b → a ≤ℤ b
greatest_same a b e = omega (arith, ints)

greatest_next : (a b c : ℤ) → a ≤ℤ b → b <ℤ c → a <ℤ c
greatest_next a b c l m = omega (arith, ints)

greatest_or : (a b : ℤ) → a <ℤ b → a ≤ℤ b
greatest_or a b l = omega (arith, ints)

greatest_up_to : (n : ℕ) (f : ℕ → ℤ) → (step : ℕ) × IsGreatestUpTo n f step
greatest_up_to zero f = (
  0,
  record {
    counted = omega arith;
    greatest = λ k l. let e : k ≡ 0 = omega arith in greatest_same (f k) (f 0) (ap f e);
    first = λ k l. absurd (omega arith);
  },
)
greatest_up_to (suc n) f = one_more (greatest_up_to n f)
  where
    one_more : (step : ℕ) × IsGreatestUpTo n f step → (step : ℕ) × IsGreatestUpTo (suc n) f step
    one_more b = by_lt_z (f b.0) (f (suc n))
        (λ less. (
          suc n,
          record {
            counted = omega arith;
            greatest = λ k l. elim (cases_lt k (suc n)) [
              | inl below ↦ greatest_or (f k) (f (suc n)) (greatest_next (f k) (f b.0) (f (suc n)) (b.1.greatest k (omega arith)) less)
              | inr last ↦ let e : k ≡ suc n = omega arith in greatest_same (f k) (f (suc n)) (ap f e)
            ];
            first = λ k l. greatest_next (f k) (f b.0) (f (suc n)) (b.1.greatest k (omega arith)) less;
          },
        ))
        (λ more. (
          b.0,
          record {
            counted = omega (arith, b.1.counted);
            greatest = λ k l. elim (cases_lt k (suc n)) [
              | inl below ↦ b.1.greatest k (omega arith)
              | inr last ↦ let e : k ≡ suc n = omega arith in rw e more
            ];
            first = b.1.first;
          },
        ))

-- each problem and ranges have a node vector
pub node_vector : (p : ProblemView) (ranges : List (ℕ × ℕ)) → (prices : List Price) × IsNodeVector p ranges prices
node_vector p ranges = vector_at_step (greatest_up_to 64 (λ k. bound_of p ranges (step_vector p ranges k) 1024))
  where
    vector_at_step : (step : ℕ) × IsGreatestUpTo 64 (λ k. bound_of p ranges (step_vector p ranges k) 1024) step → (prices : List Price) × IsNodeVector p ranges prices
    vector_at_step b = (
      step_vector p ranges b.0,
      record {
        step = b.0;
        counted = b.1.counted;
        prices_are = refl;
        greatest = b.1.greatest;
        first = b.1.first;
      },
    )
