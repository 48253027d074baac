-- Vectors of prices in lists, and the prices of subgradient steps.
use Rattle.std.proofs.lemmas.Grind.{common_steps}
use Rattle.std.proofs.Common.{false, [], ◌∷◌, ◌++◌, ◌≡◌, ℕ, zero, suc, ◌+◌, ◌-◌, ◌*◌, ◌<◌, ◌≤◌, refl, ◌∙◌, ap, arith, add-one, List, pos, ◌<ℤ◌, inl, inr}
use Rattle.std.specs.Prelude.{slice_index, ℤ, ◌≤ℤ◌, if◌then◌else◌, ◌==◌}
use Rattle.std.proofs.lemmas.Int.{ints}
use Rattle.std.proofs.lemmas.Bool.{cases_lt}
use Rattle.std.proofs.lemmas.List.Sums.{sum_by_push}
use Rattle.choice_problem.specs.declared.vectors.Price.{Price}
use Rattle.finite_sums.specs.Sums.{sum_below}
use Rattle.choice_problem.specs.Problems.{ProblemView, resource_count, amount, limit_of}
use Rattle.choice_problem.specs.Bounds.{IsVector, priced, bound_of}
use Rattle.choice_problem.specs.Roots.{vector_of, price_after, priced_load, step_length, step_vector, IsNodeVector}
use Rattle.price_table.specs.Strips.{worth, AreSums, IsPricedBy, ArePrices}
use Rattle.dual_bound.specs.Loops.{vector_in, IsPoint, AreMoved, IsAfter, IsGreatestUpTo}
use Rattle.std.proofs.Math.Nat.{mul-le-mul_left}
use Rattle.choice_problem.specs.Problems.{unit_count}
use Rattle.finite_sums.proofs.SumLemmas.{sum_below-more}
use Rattle.dual_bound.specs.Loops.{least_alt_load}

-- a vector with one resource more, which it names where its price is above 0
abbrev with_price : List Price → ℕ → ℕ → List Price
with_price prices r price = if price == 0 then prices else prices ++ record { resource = r; price = pos price } ∷ []

not_zero : (v : ℕ) → (suc v == 0) ≡ false
not_zero v = grind (arith, common_steps)

with_price-suc : (prices : List Price) (r v : ℕ) → with_price prices r (suc v) ≡ prices ++ record { resource = r; price = pos (suc v) } ∷ []
with_price-suc prices r v = ap (λ b. if b then prices else prices ++ record { resource = r; price = pos (suc v) } ∷ []) (not_zero v)

priced-with_price : (prices : List Price) (r price : ℕ) (uses : ℕ → ℕ) → priced (with_price prices r price) uses ≡ priced prices uses + price * uses r
priced-with_price prices r zero uses = omega arith
priced-with_price prices r (suc v) uses = ap (λ es. priced es uses) (with_price-suc prices r v) ∙ sum_by_push (λ (e : Price). amount e.price * uses e.resource) prices (record { resource = r; price = pos (suc v) })

pub priced-vector_of : (n : ℕ) (f uses : ℕ → ℕ) → priced (vector_of n f) uses ≡ worth n f uses
priced-vector_of zero f uses = refl
priced-vector_of (suc n) f uses = priced-with_price (vector_of n f) n (f n) uses ∙ ap (λ v. v + f n * uses n) (priced-vector_of n f uses)

pub vector_of-same : (n : ℕ) (f g : ℕ → ℕ) → ((r : ℕ) → r < n → f r ≡ g r) → vector_of n f ≡ vector_of n g
vector_of-same zero f g h = refl
vector_of-same (suc n) f g h =
    ap (λ v. with_price (vector_of n f) n v) (h n (omega arith))
    ∙ ap (λ v. with_price v n (g n)) (vector_of-same n f g (λ r l. h r (omega arith)))

-- the vector in a list of prices, with their sums
pub vector_in-priced : (p : ProblemView) (numbers sums : List ℕ) → IsVector p (vector_in p numbers) → ArePrices p numbers → resource_count p ≤ 1000000 →
    AreSums numbers sums → IsPricedBy p (vector_in p numbers) sums
vector_in-priced p numbers sums valid h few s = record {
  vector = valid;
  sums_are = record {
    spread = numbers;
    spread_is = record { count = h.count; small = h.small; same = λ uses. priced-vector_of (resource_count p) (λ r. slice_index numbers r) uses };
    sums_are = s;
    few = few;
  };
}

-- a step from prices that are those after some steps, as far as they are below 2 ^ 40 whatever the cap
pub moved_is : (p : ProblemView) (ranges : List (ℕ × ℕ)) (step : ℕ) (numbers loads moved : List ℕ) (bound : ℤ) → step < 64 →
    sum_below (step + 1) step_length ≤ 261120 →
    IsPoint p ranges 1024 numbers loads bound → AreMoved p numbers loads (step_length step) moved →
    IsAfter p ranges step numbers → IsAfter p ranges (step + 1) moved
moved_is p ranges step numbers loads moved bound l short h m a = record {
  prices_are = λ r b. (each r b).0;
  top = λ r b. (each r b).1;
}
  where
    after : ℕ → ℕ
    after r = price_after p ranges step r

    same : vector_in p numbers ≡ vector_of (resource_count p) after
    same = vector_of-same (resource_count p) (λ r. slice_index numbers r) after a.prices_are

    load_is : (r : ℕ) → r < resource_count p → slice_index loads r ≡ priced_load p ranges after r
    load_is r b = h.loads_are r b ∙ ap (λ prices. least_alt_load p ranges prices 1024 (unit_count p) r) same

    each : (r : ℕ) → r < resource_count p → (slice_index moved r ≡ price_after p ranges (step + 1) r) × (slice_index moved r ≤ sum_below (step + 1) step_length * (4096 * 434))
    each r b =
        let few : slice_index loads r ≤ 4096 * 434 = h.few r b in
        let rise : step_length step * slice_index loads r ≤ step_length step * (4096 * 434) = mul-le-mul_left (step_length step) few in
        let top : slice_index numbers r ≤ sum_below step step_length * (4096 * 434) = a.top r b in
        let more : sum_below (step + 1) step_length ≡ sum_below step step_length + step_length step = sum_below-more step step_length in
        let most : sum_below (step + 1) step_length ≤ 261120 = short in
        let next : price_after p ranges (step + 1) r ≡ (after r + step_length step * priced_load p ranges after r) - step_length step * limit_of p r = rw add-one refl in
        let move = m.each r b in
        let load : step_length step * slice_index loads r ≡ step_length step * priced_load p ranges after r = ap (λ v. step_length step * v) (load_is r b) in
        let here : slice_index numbers r ≡ after r = a.prices_are r b in
        (omega (arith, rise, top, more, most, next, move, load, here), omega (arith, rise, top, more, most, move))

step_bound : (p : ProblemView) (ranges : List (ℕ × ℕ)) (step : ℕ) (numbers loads : List ℕ) (bound : ℤ) → IsPoint p ranges 1024 numbers loads bound →
    IsAfter p ranges step numbers → bound ≡ bound_of p ranges (step_vector p ranges step) 1024
step_bound p ranges step numbers loads bound h a =
    h.bound_is ∙ ap (λ prices. bound_of p ranges prices 1024) (vector_of-same (resource_count p) (λ r. slice_index numbers r) (λ r. price_after p ranges step r) a.prices_are)

at_most : (a b : ℤ) → a ≡ b → b ≤ℤ a
at_most a b e = omega (arith, ints, e)

below_less : (a b c : ℤ) → a ≤ℤ b → b <ℤ c → a <ℤ c
below_less a b c l m = omega (arith, ints)

below_at_most : (a b c : ℤ) → a ≤ℤ b → b <ℤ c → a ≤ℤ c
below_at_most a b c l m = omega (arith, ints)

not_above : (a b c : ℤ) → a ≡ b → a ≤ℤ c → b ≤ℤ c
not_above a b c e l = omega (arith, ints, e)

-- the best prices so far, at the start and with those of one step more
pub IsGreatestUpTo-start : (p : ProblemView) (ranges : List (ℕ × ℕ)) (numbers loads : List ℕ) (bound : ℤ) → IsPoint p ranges 1024 numbers loads bound →
    IsAfter p ranges 0 numbers → IsGreatestUpTo p ranges 0 numbers bound
IsGreatestUpTo-start p ranges numbers loads bound h a = record {
  step = 0;
  counted = omega arith;
  prices = h.prices;
  prices_are = a.prices_are;
  bound_is = step_bound p ranges 0 numbers loads bound h a;
  greatest = λ k l. let e : 0 ≡ k = omega arith in rw (← e) (at_most bound _ (step_bound p ranges 0 numbers loads bound h a));
  first = λ k l. absurd (omega arith);
}

pub IsGreatestUpTo-new : (p : ProblemView) (ranges : List (ℕ × ℕ)) (n : ℕ) (old numbers loads : List ℕ) (best bound : ℤ) →
    IsPoint p ranges 1024 numbers loads bound → IsAfter p ranges (n + 1) numbers → best <ℤ bound → IsGreatestUpTo p ranges n old best →
    IsGreatestUpTo p ranges (n + 1) numbers bound
IsGreatestUpTo-new p ranges n old numbers loads best bound h a m b = record {
  step = n + 1;
  counted = omega arith;
  prices = h.prices;
  prices_are = a.prices_are;
  bound_is = step_bound p ranges (n + 1) numbers loads bound h a;
  greatest = λ k l. elim (cases_lt n k) [
    | inl last ↦ let e : n + 1 ≡ k = omega arith in rw (← e) (at_most bound _ (step_bound p ranges (n + 1) numbers loads bound h a))
    | inr before ↦ below_at_most _ best bound (b.greatest k before) m
  ];
  first = λ k l. below_less _ best bound (b.greatest k (omega arith)) m;
}

pub IsGreatestUpTo-old : (p : ProblemView) (ranges : List (ℕ × ℕ)) (n : ℕ) (old numbers loads : List ℕ) (best bound : ℤ) →
    IsPoint p ranges 1024 numbers loads bound → IsAfter p ranges (n + 1) numbers → bound ≤ℤ best → IsGreatestUpTo p ranges n old best →
    IsGreatestUpTo p ranges (n + 1) old best
IsGreatestUpTo-old p ranges n old numbers loads best bound h a m b = record {
  step = b.step;
  counted = omega (arith, b.counted);
  prices = b.prices;
  prices_are = b.prices_are;
  bound_is = b.bound_is;
  greatest = λ k l. elim (cases_lt n k) [
    | inl last ↦ let e : n + 1 ≡ k = omega arith in rw (← e) (not_above bound _ best (step_bound p ranges (n + 1) numbers loads bound h a) m)
    | inr before ↦ b.greatest k before
  ];
  first = b.first;
}

-- the best prices of all 64 steps make the vector
pub IsGreatestUpTo-node : (p : ProblemView) (ranges : List (ℕ × ℕ)) (numbers : List ℕ) (bound : ℤ) → IsGreatestUpTo p ranges 64 numbers bound →
    IsNodeVector p ranges (vector_in p numbers)
IsGreatestUpTo-node p ranges numbers bound h = record {
  step = h.step;
  counted = h.counted;
  prices_are = vector_of-same (resource_count p) (λ r. slice_index numbers r) (λ r. price_after p ranges h.step r) h.prices_are;
  greatest = λ k l. rw h.bound_is at (h.greatest k l);
  first = λ k l. rw h.bound_is at (h.first k l);
}
