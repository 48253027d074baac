-- Sums and least values over a run of numbers: steps, order, and sums of sums.
use Rattle.std.proofs.Common.{◌≡◌, ℕ, zero, suc, ◌+◌, ◌-◌, ◌*◌, ◌<◌, ◌≤◌, min, refl, sym, ◌∙◌, ap, arith, add-one, List, [], ◌∷◌}
use Rattle.std.specs.List.{sum_by}
use Rattle.std.proofs.lemmas.List.Sums.{sum_by-cons}
use Rattle.std.proofs.lemmas.Bool.{cases_lt}
use Rattle.std.proofs.Common.{inl, inr}
use Rattle.std.proofs.Common.{Bool, true, false}
use Rattle.std.specs.Prelude.{if◌then◌else◌, nat_lt}
use Rattle.std.proofs.lemmas.Grind.{common_steps}
use Rattle.finite_sums.specs.Sums.{sum_below, count_below, least_from, least_within, first_least_from, first_least, IsFirstLeast}

-- one more term
pub sum_below-more : (n : ℕ) (f : ℕ → ℕ) → sum_below (n + 1) f ≡ sum_below n f + f n
sum_below-more n f = rw add-one refl

pub least_from-more : (low n : ℕ) (f : ℕ → ℕ) → least_from low (n + 1) f ≡ min (least_from low n f) (f (low + n + 1))
least_from-more low n f = rw (add-one) (ap (λ k. min (least_from low n f) (f k)) (omega arith))

-- term by term
pub sum_below-le : (n : ℕ) (f g : ℕ → ℕ) → ((i : ℕ) → i < n → f i ≤ g i) → sum_below n f ≤ sum_below n g
sum_below-le zero f g h = omega arith
sum_below-le (suc n) f g h = omega (arith, sum_below-le n f g (λ i l. h i (omega arith)), h n (omega arith))

pub sum_below-same : (n : ℕ) (f g : ℕ → ℕ) → ((i : ℕ) → i < n → f i ≡ g i) → sum_below n f ≡ sum_below n g
sum_below-same zero f g h = refl
sum_below-same (suc n) f g h = omega (arith, sum_below-same n f g (λ i l. h i (omega arith)), h n (omega arith))

pub sum_below-add : (n : ℕ) (f g : ℕ → ℕ) → sum_below n (λ i. f i + g i) ≡ sum_below n f + sum_below n g
sum_below-add zero f g = refl
sum_below-add (suc n) f g = omega (arith, sum_below-add n f g)

pub sum_below-zero : (n : ℕ) → sum_below n (λ _. 0) ≡ 0
sum_below-zero zero = refl
sum_below-zero (suc n) = omega (arith, sum_below-zero n)

pub sum_below-scale : (n k : ℕ) (f : ℕ → ℕ) → sum_below n (λ i. k * f i) ≡ k * sum_below n f
sum_below-scale zero k f = omega arith
sum_below-scale (suc n) k f = omega (arith, sum_below-scale n k f)

-- a sum over units of sums over a list is the sum over the list of sums over units
pub sum_below-sum_by : {X : Type 0} (n : ℕ) (xs : List X) (f : ℕ → X → ℕ) → sum_below n (λ i. sum_by (f i) xs) ≡ sum_by (λ x. sum_below n (λ i. f i x)) xs
sum_below-sum_by n [] f = sum_below-zero n
sum_below-sum_by n (x ∷ xs) f =
    sum_below-same n (λ i. sum_by (f i) (x ∷ xs)) (λ i. f i x + sum_by (f i) xs) (λ i _. sum_by-cons (f i) x xs)
    ∙ sum_below-add n (λ i. f i x) (λ i. sum_by (f i) xs)
    ∙ ap (λ m. sum_below n (λ i. f i x) + m) (sum_below-sum_by n xs f)
    ∙ sym (sum_by-cons (λ y. sum_below n (λ i. f i y)) x xs)

-- no value in the range is below the least
pub least_from-le : (low n k : ℕ) (f : ℕ → ℕ) → k ≤ n → least_from low n f ≤ f (low + k)
least_from-le low zero k f h =
    let e : low ≡ low + k = omega arith in
    rw (← e) (omega arith)
least_from-le low (suc n) k f h =
    elim (cases_lt k (suc n)) [
      | inl l ↦ let m : k ≤ n = omega arith in omega (arith, least_from-le low n k f m)
      | inr l ↦ let e : suc n ≡ k = omega arith in rw (← e) (omega arith)
    ]

pub least_within-le : (low high a : ℕ) (f : ℕ → ℕ) → low ≤ a → a ≤ high → least_within low high f ≤ f a
least_within-le low high a f l h =
    let e : low + (a - low) ≡ a = omega arith in
    let m : a - low ≤ high - low = omega arith in
    rw e at (least_from-le low (high - low) (a - low) f m)

pub sum_by-same : {X : Type 0} (xs : List X) (f g : X → ℕ) → ((x : X) → f x ≡ g x) → sum_by f xs ≡ sum_by g xs
sum_by-same [] f g h = refl
sum_by-same (x ∷ xs) f g h = omega (arith, sum_by-cons f x xs, sum_by-cons g x xs, h x, sum_by-same xs f g h)

-- the least from one value to itself, and to one value more
pub least_within-one : (low : ℕ) (f : ℕ → ℕ) → least_within low low f ≡ f low
least_within-one low f = let e : low - low ≡ 0 = omega arith in rw e refl

pub least_within-more : (low high : ℕ) (f : ℕ → ℕ) → low ≤ high → least_within low (high + 1) f ≡ min (least_within low high f) (f (high + 1))
least_within-more low high f h =
    let e : (high + 1) - low ≡ suc (high - low) = omega arith in
    let k : low + suc (high - low) ≡ high + 1 = omega arith in
    rw e (ap (λ v. min (least_within low high f) (f v)) k)

pub ruleset least_within_steps = (least_within-one, least_within-more)

-- a sum so far with the next term is part of the whole sum
pub sum_below-more_le : (n i : ℕ) (f : ℕ → ℕ) → i < n → sum_below i f + f i ≤ sum_below n f
sum_below-more_le zero i f l = absurd (omega arith)
sum_below-more_le (suc n) i f l =
    elim (cases_lt i n) [
      | inl below ↦ omega (arith, sum_below-more_le n i f below)
      | inr last ↦ let e : i ≡ n = omega arith in rw e (omega arith)
    ]

-- what is below each value in the range is below the least
least_from-ge : (low n m : ℕ) (f : ℕ → ℕ) → ((a : ℕ) → low ≤ a → a ≤ low + n → m ≤ f a) → m ≤ least_from low n f
least_from-ge low zero m f h = h low (omega arith) (omega arith)
least_from-ge low (suc n) m f h =
    omega (arith, least_from-ge low n m f (λ a l k. h a l (omega arith)), h (low + suc n) (omega arith) (omega arith))

pub least_within-ge : (low high m : ℕ) (f : ℕ → ℕ) → low ≤ high → ((a : ℕ) → low ≤ a → a ≤ high → m ≤ f a) → m ≤ least_within low high f
least_within-ge low high m f o h = least_from-ge low (high - low) m f (λ a l k. h a l (omega arith))

-- the least of more values is no greater
pub least_within-shorter : (low mid high : ℕ) (f : ℕ → ℕ) → low ≤ mid → mid ≤ high → least_within low high f ≤ least_within low mid f
least_within-shorter low mid high f o h = least_within-ge low mid (least_within low high f) f o (λ a l k. least_within-le low high a f l (omega arith))

-- counts: one test more, and tests that none or all pass
pub count_below-more : (n : ℕ) (passes : ℕ → Bool) → count_below (n + 1) passes ≡ count_below n passes + (if passes n then 1 else 0)
count_below-more n passes = sum_below-more n (λ i. if passes i then 1 else 0)

pub count_below-le : (n : ℕ) (passes : ℕ → Bool) → count_below n passes ≤ n
count_below-le zero passes = omega arith
count_below-le (suc n) passes = omega (arith, count_below-le n passes, one_at_most (passes n))
  where
    one_at_most : (b : Bool) → (if b then 1 else 0) ≤ 1
    one_at_most true = omega arith
    one_at_most false = omega arith

pub count_below-same : (n : ℕ) (one other : ℕ → Bool) → ((i : ℕ) → i < n → one i ≡ other i) → count_below n one ≡ count_below n other
count_below-same n one other h = sum_below-same n (λ i. if one i then 1 else 0) (λ i. if other i then 1 else 0) (λ i l. ap (λ b. if b then 1 else 0) (h i l))

pub count_below-none : (n : ℕ) (passes : ℕ → Bool) → ((i : ℕ) → i < n → passes i ≡ false) → count_below n passes ≡ 0
count_below-none n passes h = count_below-same n passes (λ _. false) h ∙ sum_below-zero n

pub count_below-all : (n : ℕ) (passes : ℕ → Bool) → ((i : ℕ) → i < n → passes i ≡ true) → count_below n passes ≡ n
count_below-all zero passes h = refl
count_below-all (suc n) passes h =
    let rest = count_below-all n passes (λ i l. h i (omega arith)) in
    omega (arith, rest, one (passes n) (h n (omega arith)), at_most (passes n))
  where
    one : (b : Bool) → b ≡ true → 1 ≤ (if b then 1 else 0)
    one b e = rw e (omega arith)

    at_most : (b : Bool) → (if b then 1 else 0) ≤ 1
    at_most true = omega arith
    at_most false = omega arith

-- two sums may be exchanged
pub sum_below-swap : (n m : ℕ) (f : ℕ → ℕ → ℕ) → sum_below n (λ i. sum_below m (λ j. f i j)) ≡ sum_below m (λ j. sum_below n (λ i. f i j))
sum_below-swap zero m f = sym (sum_below-zero m)
sum_below-swap (suc n) m f =
    omega (arith, sum_below-swap n m f, sum_below-add m (λ j. sum_below n (λ i. f i j)) (λ j. f n j))

-- the first least of one value, and of one value more
pub first_least-one : (low : ℕ) (f : ℕ → ℕ) → first_least low low f ≡ low
first_least-one low f = let e : low - low ≡ 0 = omega arith in rw e refl

pub first_least-more : (low high : ℕ) (f : ℕ → ℕ) → low ≤ high →
    first_least low (high + 1) f ≡ (if nat_lt (f (high + 1)) (f (first_least low high f)) then high + 1 else first_least low high f)
first_least-more low high f h =
    let e : (high + 1) - low ≡ suc (high - low) = omega arith in
    let k : low + suc (high - low) ≡ high + 1 = omega arith in
    rw e (ap (λ v. if nat_lt (f v) (f (first_least low high f)) then v else first_least low high f) k)

lt_true : (a b : ℕ) → a < b → nat_lt a b ≡ true
lt_true a b l = grind (arith, common_steps)

lt_false : (a b : ℕ) → b ≤ a → nat_lt a b ≡ false
lt_false a b l = grind (arith, common_steps)

first_least_from-is : (low n : ℕ) (f : ℕ → ℕ) → IsFirstLeast low (low + n) f (first_least_from low n f)
first_least_from-is low zero f = record {
  from = omega arith;
  to = omega arith;
  least = λ b l m. let e : low ≡ b = omega arith in rw e (omega arith);
  first = λ b l m. absurd (omega arith);
}
first_least_from-is low (suc n) f = better (first_least_from low n f) (first_least_from-is low n f)
  where
    better : (a : ℕ) → IsFirstLeast low (low + n) f a → IsFirstLeast low (low + suc n) f (if nat_lt (f (low + suc n)) (f a) then low + suc n else a)
    better a h = elim (cases_lt (f (low + suc n)) (f a)) [
      | inl less ↦ let e : nat_lt (f (low + suc n)) (f a) ≡ true = lt_true (f (low + suc n)) (f a) less in rw e (record {
        from = omega arith;
        to = omega arith;
        least = λ b l m. elim (cases_lt b (low + suc n)) [
          | inl below ↦ omega (arith, less, h.least b l (omega arith))
          | inr last ↦ let s : low + suc n ≡ b = omega arith in rw s (omega arith)
        ];
        first = λ b l m. omega (arith, less, h.least b l (omega arith));
      })
      | inr more ↦ let e : nat_lt (f (low + suc n)) (f a) ≡ false = lt_false (f (low + suc n)) (f a) more in rw e (record {
        from = h.from;
        to = omega (arith, h.to);
        least = λ b l m. elim (cases_lt b (low + suc n)) [
          | inl below ↦ h.least b l (omega arith)
          | inr last ↦ let s : low + suc n ≡ b = omega arith in rw s at more
        ];
        first = h.first;
      })
    ]

pub first_least-IsFirstLeast : (low high : ℕ) (f : ℕ → ℕ) → low ≤ high → IsFirstLeast low high f (first_least low high f)
first_least-IsFirstLeast low high f l = let e : low + (high - low) ≡ high = omega arith in rw e at (first_least_from-is low (high - low) f)

pub IsFirstLeast-only : (low high : ℕ) (f : ℕ → ℕ) (a b : ℕ) → IsFirstLeast low high f a → IsFirstLeast low high f b → a ≡ b
IsFirstLeast-only low high f a b h k = elim (cases_lt a b) [
  | inl below ↦ absurd (omega (arith, k.first a h.from below, h.least b k.from k.to))
  | inr more ↦ elim (cases_lt b a) [
    | inl above ↦ absurd (omega (arith, h.first b k.from above, k.least a h.from h.to))
    | inr less ↦ omega arith
  ]
]
