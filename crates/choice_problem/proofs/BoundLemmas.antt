-- The Lagrangian bound: no feasible choice within the ranges costs less.
use Rattle.std.proofs.Common.{◌≡◌, ℕ, zero, suc, ◌+◌, ◌*◌, ◌<◌, ◌≤◌, arith, List, [], ◌∷◌, length, Some, None, pos, ◌-ℤ◌, ◌*ℤ◌, ◌<ℤ◌}
use Rattle.std.specs.Prelude.{slice_index}
use Rattle.std.proofs.lemmas.Int.{ints}
use Rattle.std.proofs.lemmas.List.Sums.{sum_by-cons}
use Rattle.std.proofs.lemmas.Bool.{cases_lt}
use Rattle.std.proofs.Common.{inl, inr}
use Rattle.std.proofs.Math.Nat.{mul-le-mul_left}
use Rattle.choice_problem.specs.declared.vectors.Price.{Price}
use Rattle.finite_sums.specs.Sums.{sum_below, least_within}
use Rattle.choice_problem.specs.Problems.{ProblemView, unit_count, alt_cost, alt_uses, limit_of, resource_count, amount}
use Rattle.choice_problem.specs.Choices.{IsFeasible, choice_cost, load_of, Fits}
use Rattle.choice_problem.specs.Bounds.{price_at, low_of, high_of, IsWithin, IsVector, Closes, IsOver, priced, priced_cost, least_total}
use Rattle.finite_sums.proofs.SumLemmas.{sum_below-le, sum_below-add, sum_below-scale, sum_below-sum_by, least_within-le, sum_by-same}

-- closing for a cost, without integers
in_numbers : (s v l t : ℕ) → (pos s *ℤ (pos v -ℤ pos 1)) <ℤ (pos t -ℤ pos l) → s * v + l < t + s
in_numbers zero zero l t k = grind (arith, ints)
in_numbers (suc s) zero l t k = grind (arith, ints)
in_numbers s (suc v) l t k = scaled s v l t (less_one v k)
  where
    scaled : (s' v' l' t' : ℕ) → (pos s' *ℤ pos v') <ℤ (pos t' -ℤ pos l') → s' * suc v' + l' < t' + s'
    scaled s' v' l' t' h = grind (arith, ints)

    less_one : (v' : ℕ) → (pos s *ℤ (pos (suc v') -ℤ pos 1)) <ℤ (pos t -ℤ pos l) → (pos s *ℤ pos v') <ℤ (pos t -ℤ pos l)
    less_one v' h = let e : pos (suc v') -ℤ pos 1 ≡ pos v' = omega (arith, ints) in rw e at h

in_integers : (s v l t : ℕ) → s * v + l < t + s → (pos s *ℤ (pos v -ℤ pos 1)) <ℤ (pos t -ℤ pos l)
in_integers zero zero l t k = grind (arith, ints)
in_integers (suc s) zero l t k = grind (arith, ints)
in_integers s (suc v) l t k = let e : pos (suc v) -ℤ pos 1 ≡ pos v = omega (arith, ints) in rw e (scaled s v l t k)
  where
    scaled : (s' v' l' t' : ℕ) → s' * suc v' + l' < t' + s' → (pos s' *ℤ pos v') <ℤ (pos t' -ℤ pos l')
    scaled s' v' l' t' h = grind (arith, ints)

pub Closes-from_Some : (p : ProblemView) (ranges : List (ℕ × ℕ)) (prices : List Price) (scale u : ℕ) →
    Closes p ranges prices scale (Some u) → scale * u + priced prices (λ r. limit_of p r) < least_total p ranges prices scale + scale
Closes-from_Some p ranges prices scale u h = in_numbers scale u (priced prices (λ r. limit_of p r)) (least_total p ranges prices scale) h

pub Closes-Some : (p : ProblemView) (ranges : List (ℕ × ℕ)) (prices : List Price) (scale u : ℕ) →
    scale * u + priced prices (λ r. limit_of p r) < least_total p ranges prices scale + scale → Closes p ranges prices scale (Some u)
Closes-Some p ranges prices scale u h = in_integers scale u (priced prices (λ r. limit_of p r)) (least_total p ranges prices scale) h

-- the same where no cost is known
pub Closes-from_None : (p : ProblemView) (ranges : List (ℕ × ℕ)) (prices : List Price) (scale : ℕ) →
    Closes p ranges prices scale None → (scale ≡ 0) × (priced prices (λ r. limit_of p r) < least_total p ranges prices scale)
Closes-from_None p ranges prices scale h = (h.0, positive (least_total p ranges prices scale) (priced prices (λ r. limit_of p r)) h.1)
  where
    positive : (t l : ℕ) → pos 0 <ℤ (pos t -ℤ pos l) → l < t
    positive t l k = omega (arith, ints)

pub Closes-None : (p : ProblemView) (ranges : List (ℕ × ℕ)) (prices : List Price) (scale : ℕ) →
    scale ≡ 0 → priced prices (λ r. limit_of p r) < least_total p ranges prices scale → Closes p ranges prices scale None
Closes-None p ranges prices scale z h = (z, positive (least_total p ranges prices scale) (priced prices (λ r. limit_of p r)) h)
  where
    positive : (t l : ℕ) → l < t → pos 0 <ℤ (pos t -ℤ pos l)
    positive t l k = omega (arith, ints)

-- a unit's priced cost is least at most at its choice
pub least_total-le : (p : ProblemView) (ranges : List (ℕ × ℕ)) (prices : List Price) (scale : ℕ) (x : List ℕ) → IsWithin p ranges x →
    least_total p ranges prices scale ≤ sum_below (unit_count p) (λ u. priced_cost p prices scale u (slice_index x u))
least_total-le p ranges prices scale x w =
    sum_below-le (unit_count p)
    (λ u. least_within (low_of ranges u) (high_of ranges u) (λ a. priced_cost p prices scale u a))
    (λ u. priced_cost p prices scale u (slice_index x u))
    (λ u l. least_within-le (low_of ranges u) (high_of ranges u) (slice_index x u) (λ a. priced_cost p prices scale u a) (w.from u l) (w.to u l))

-- summed over units, priced costs are the scaled cost and the priced load
pub sum_below-priced_cost : (p : ProblemView) (prices : List Price) (scale : ℕ) (x : List ℕ) →
    sum_below (unit_count p) (λ u. priced_cost p prices scale u (slice_index x u)) ≡ scale * choice_cost p x + priced prices (λ r. load_of p x r)
sum_below-priced_cost p prices scale x =
    let n : ℕ = unit_count p in
    let cost : ℕ → ℕ = λ u. alt_cost p u (slice_index x u) in
    let uses : ℕ → ℕ → ℕ = λ u r. alt_uses p u (slice_index x u) r in
    let split = sum_below-add n (λ u. scale * cost u) (λ u. priced prices (uses u)) in
    let costs = sum_below-scale n scale cost in
    let loads = sum_below-sum_by n prices (λ u e. amount e.price * uses u e.resource) in
    let scaled = sum_by-same prices (λ e. sum_below n (λ u. amount e.price * uses u e.resource)) (λ e. amount e.price * load_of p x e.resource)
    (λ e. sum_below-scale n (amount e.price) (λ u. uses u e.resource)) in
    omega (arith, split, costs, loads, scaled)

-- a load that fits costs at most what the limits cost
pub priced-le : (prices : List Price) (f g : ℕ → ℕ) → ((i : ℕ) → i < length prices → f (price_at prices i).resource ≤ g (price_at prices i).resource) →
    priced prices f ≤ priced prices g
priced-le [] f g h = omega arith
priced-le (e ∷ es) f g h =
    let rest = priced-le es f g (λ i l. h (suc i) (omega arith)) in
    let here = mul-le-mul_left (amount e.price) (h 0 (omega arith)) in
    omega (arith, rest, here, sum_by-cons (λ (k : Price). amount k.price * f k.resource) e es, sum_by-cons (λ (k : Price). amount k.price * g k.resource) e es)

pub priced-load : (p : ProblemView) (prices : List Price) (x : List ℕ) → IsVector p prices → Fits p x →
    priced prices (λ r. load_of p x r) ≤ priced prices (λ r. limit_of p r)
priced-load p prices x v h = priced-le prices (λ r. load_of p x r) (λ r. limit_of p r) (λ i l. h (price_at prices i).resource (v.each i (record { resource = 0; price = pos 0 }) l).there)

-- a feasible choice within closed ranges costs at least what they are closed for
pub cost-closed : (p : ProblemView) (ranges : List (ℕ × ℕ)) (prices : List Price) (scale u : ℕ) (x : List ℕ) →
    IsVector p prices → Closes p ranges prices scale (Some u) → IsFeasible p x → IsWithin p ranges x → u ≤ choice_cost p x
cost-closed p ranges prices scale u x v c f w =
    let c' = Closes-from_Some p ranges prices scale u c in
    let least = least_total-le p ranges prices scale x w in
    let whole = sum_below-priced_cost p prices scale x in
    let load = priced-load p prices x v f.fits in
    by_numbers scale u (choice_cost p x) (omega (arith, c', least, whole, load))
  where
    by_numbers : (s v c : ℕ) → s * v < s * c + s → v ≤ c
    by_numbers s v' c h =
        elim (cases_lt c v') [
          | inl l ↦ let more : c + 1 ≤ v' = omega arith in absurd (omega (arith, mul-le-mul_left s more))
          | inr l ↦ l
        ]

pub none-closed : (p : ProblemView) (ranges : List (ℕ × ℕ)) (prices : List Price) (scale : ℕ) (x : List ℕ) →
    IsVector p prices → Closes p ranges prices scale None → IsFeasible p x → IsWithin p ranges x → ⊥
none-closed p ranges prices scale x v c f w =
    let c' = Closes-from_None p ranges prices scale c in
    let least = least_total-le p ranges prices scale x w in
    let whole = sum_below-priced_cost p prices scale x in
    let load = priced-load p prices x v f.fits in
    let none : scale * choice_cost p x ≡ 0 = rw c'.0 (omega arith) in
    omega (arith, c', least, whole, load, none)

-- even the least load is below that of a choice within the ranges
pub over-closed : (p : ProblemView) (ranges : List (ℕ × ℕ)) (r : ℕ) (x : List ℕ) →
    r < resource_count p → IsOver p ranges r → IsFeasible p x → IsWithin p ranges x → ⊥
over-closed p ranges r x there o f w =
    let least = sum_below-le (unit_count p)
    (λ u. least_within (low_of ranges u) (high_of ranges u) (λ a. alt_uses p u a r))
    (λ u. alt_uses p u (slice_index x u) r)
    (λ u l. least_within-le (low_of ranges u) (high_of ranges u) (slice_index x u) (λ a. alt_uses p u a r) (w.from u l) (w.to u l)) in
    omega (arith, o, least, f.fits r there)

-- what closes for none closes for every cost
pub Closes-None-Some : (p : ProblemView) (ranges : List (ℕ × ℕ)) (prices : List Price) (scale u : ℕ) →
    Closes p ranges prices scale None → Closes p ranges prices scale (Some u)
Closes-None-Some p ranges prices scale u h =
    let c = Closes-from_None p ranges prices scale h in
    let none : scale * u ≡ 0 = rw c.0 (omega arith) in
    Closes-Some p ranges prices scale u (omega (arith, c, none))

-- what closes for a cost closes for every smaller one
pub Closes-smaller : (p : ProblemView) (ranges : List (ℕ × ℕ)) (prices : List Price) (scale u v : ℕ) → v ≤ u →
    Closes p ranges prices scale (Some u) → Closes p ranges prices scale (Some v)
Closes-smaller p ranges prices scale u v l h =
    Closes-Some p ranges prices scale v (omega (arith, Closes-from_Some p ranges prices scale u h, mul-le-mul_left scale l))
