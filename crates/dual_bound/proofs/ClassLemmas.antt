-- Subgradient runs on classes of equal resources are those on all resources.
use Rattle.std.proofs.Common.{◌≡◌, ℕ, zero, suc, ◌+◌, ◌*◌, ◌<◌, ◌≤◌, refl, sym, ◌∙◌, ap, arith, List, length, pos, inl, inr, Bool}
use Rattle.std.specs.Prelude.{slice_index, ℤ, ◌-ℤ◌, nat_eq, if◌then◌else◌}
use Rattle.std.proofs.lemmas.Grind.{common_steps}
use Rattle.std.proofs.Math.Path.{fun_ext}
use Rattle.std.proofs.Math.Nat.{add-mul, mul_assoc}
use Rattle.std.proofs.lemmas.Bool.{cases_lt, eq-eqb}
use Rattle.std.proofs.lemmas.List.{get_or-map, length-map}
use Rattle.finite_sums.specs.Sums.{sum_below, count_below, first_least, least_within}
use Rattle.finite_sums.proofs.SumLemmas.{sum_below-same, sum_below-add, sum_below-zero}
use Rattle.choice_problem.specs.declared.vectors.Price.{Price}
use Rattle.choice_problem.specs.Problems.{ProblemView, unit_count, resource_count, limit_of, alt_cost, alt_uses}
use Rattle.choice_problem.specs.Bounds.{bound_of, least_total, priced, priced_cost, low_of, high_of}
use Rattle.price_table.specs.Strips.{ArePrices, least_alt, unit_least}
use Rattle.dual_bound.specs.Loops.{IsPoint, AreMoved, IsAfter, vector_in, least_alt_load}
use Rattle.dual_bound.specs.Classes.{AreGrouped, AreWeighted, by_classes}
use Rattle.dual_bound.proofs.StepLemmas.{priced-vector_of}

abbrev one_if : Bool → ℕ
one_if b = if b then 1 else 0

below_not : (a c : ℕ) → c < a → one_if (nat_eq a c) ≡ 0
below_not a c l = grind (arith, common_steps)

above_not : (a c : ℕ) → a < c → one_if (nat_eq a c) ≡ 0
above_not a c l = grind (arith, common_steps)

equal_one : (a : ℕ) → one_if (nat_eq a a) ≡ 1
equal_one a = ap (λ b. one_if b) (eq-eqb a a refl)

-- of the terms of a sum just that of one class is taken
none_below : (count a : ℕ) (f : ℕ → ℕ) → count ≤ a → sum_below count (λ c. one_if (nat_eq a c) * f c) ≡ 0
none_below zero a f l = refl
none_below (suc count) a f l =
    let none : one_if (nat_eq a count) ≡ 0 = below_not a count (omega arith) in
    let rest = none_below count a f (omega arith) in
    rw none (omega (arith, rest))

one_below : (count a : ℕ) (f : ℕ → ℕ) → a < count → sum_below count (λ c. one_if (nat_eq a c) * f c) ≡ f a
one_below zero a f l = absurd (omega arith)
one_below (suc count) a f l = elim (cases_lt a count) [
  | inl below ↦
      let none : one_if (nat_eq a count) ≡ 0 = above_not a count below in
      let rest = one_below count a f below in
      rw none (omega (arith, rest))
  | inr last ↦
      let e : a ≡ count = omega arith in
      let rest = none_below count count f (omega arith) in
      let one = equal_one count in
      rw e (omega (arith, rest, ap (λ v. v * f count) one))
]

-- a sum over resources of what their classes have is a sum over classes, each as often as it has resources
sum-counted : (n count : ℕ) (class f : ℕ → ℕ) → ((r : ℕ) → r < n → class r < count) →
    sum_below n (λ r. f (class r)) ≡ sum_below count (λ c. count_below n (λ r. nat_eq (class r) c) * f c)
sum-counted zero count class f there =
    let none = sum_below-same count (λ c. 0 * f c) (λ _. 0) (λ c l. omega arith) ∙ sum_below-zero count in
    sym none
sum-counted (suc n) count class f there =
    let before : ℕ → ℕ = λ c. count_below n (λ r. nat_eq (class r) c) in
    let one : ℕ → ℕ = λ c. one_if (nat_eq (class n) c) in
    ap (λ v. v + f (class n)) (sum-counted n count class f (λ r l. there r (omega arith)))
    ∙ ap (λ v. sum_below count (λ c. before c * f c) + v) (sym (one_below count (class n) f (there n (omega arith))))
    ∙ sym (sum_below-add count (λ c. before c * f c) (λ c. one c * f c))
    ∙ sum_below-same count (λ c. before c * f c + one c * f c) (λ c. (before c + one c) * f c) (λ c l. sym (add-mul (before c) (one c) (f c)))

-- a problem p, and the problem k on classes of its resources
module _ (p k : ProblemView) (classes sizes : List ℕ) (h : AreGrouped p k classes sizes) where
  count-by : (numbers : List ℕ) → length (by_classes classes numbers) ≡ resource_count p
  count-by numbers = length-map classes (λ c. slice_index numbers c) ∙ h.count

  at-by : (numbers : List ℕ) (r : ℕ) → r < resource_count p → slice_index (by_classes classes numbers) r ≡ slice_index numbers (slice_index classes r)
  at-by numbers r l = get_or-map (λ c. slice_index numbers c) classes r 0 0 (omega (arith, h.count, l))

  ArePrices-by : (numbers : List ℕ) → ArePrices k numbers → ArePrices p (by_classes classes numbers)
  ArePrices-by numbers a = record {
    count = count-by numbers;
    small = λ r l. omega (arith, at-by numbers r l, a.small (slice_index classes r) (h.there r l));
  }

  pub IsAfter-free : (ranges : List (ℕ × ℕ)) (numbers : List ℕ) → ((c : ℕ) → c < resource_count k → slice_index numbers c ≡ 0) →
      IsAfter p ranges 0 (by_classes classes numbers)
  IsAfter-free ranges numbers free = record {
    prices_are = λ r l. at-by numbers r l ∙ free (slice_index classes r) (h.there r l);
    top = λ r l. omega (arith, at-by numbers r l, free (slice_index classes r) (h.there r l));
  }

  -- a step moves the prices of resources as it moves those of their classes
  pub AreMoved-by : (numbers loads moved : List ℕ) (step : ℕ) → AreMoved k numbers loads step moved →
      AreMoved p (by_classes classes numbers) (by_classes classes loads) step (by_classes classes moved)
  AreMoved-by numbers loads moved step m = record {
    count = count-by moved;
    each = λ r l. rw (at-by numbers r l, at-by loads r l, sym (h.limits r l)) (at-by moved r l ∙ m.each (slice_index classes r) (h.there r l));
  }

  module _ (prices weighted : List ℕ) (w : AreWeighted prices sizes weighted) (a : ArePrices k prices) where
    abbrev grouped : List Price
    grouped = vector_in k weighted

    abbrev spread : List Price
    spread = vector_in p (by_classes classes prices)

    -- uses cost as much at the weighted prices of classes as at the prices of resources
    same_priced : (uses others : ℕ → ℕ) → ((r : ℕ) → r < resource_count p → others (slice_index classes r) ≡ uses r) → priced grouped others ≡ priced spread uses
    same_priced uses others e =
        let n = resource_count p in
        let count = resource_count k in
        let f : ℕ → ℕ = λ c. slice_index prices c * others c in
        priced-vector_of count (λ c. slice_index weighted c) others
        ∙ sum_below-same count (λ c. slice_index weighted c * others c) (λ c. count_below n (λ r. nat_eq (slice_index classes r) c) * f c)
        (λ c l.
        ap (λ v. v * others c) (w.each c (omega (arith, l, a.count)))
        ∙ mul_assoc (slice_index sizes c) (slice_index prices c) (others c)
        ∙ ap (λ v. v * f c) (h.sizes_are c l))
        ∙ sym (sum-counted n count (λ r. slice_index classes r) f (λ r l. h.there r l))
        ∙ sum_below-same n (λ r. f (slice_index classes r)) (λ r. slice_index (by_classes classes prices) r * uses r)
        (λ r l.
        ap (λ v. v * others (slice_index classes r)) (sym (at-by prices r l))
        ∙ ap (λ v. slice_index (by_classes classes prices) r * v) (e r l))
        ∙ sym (priced-vector_of n (λ r. slice_index (by_classes classes prices) r) uses)

    same_cost : (u b : ℕ) → priced_cost k grouped 1024 u b ≡ priced_cost p spread 1024 u b
    same_cost u b =
        ap (λ v. 1024 * v + priced grouped (λ r. alt_uses k u b r)) (h.costs u b)
        ∙ ap (λ v. 1024 * alt_cost p u b + v) (same_priced (λ r. alt_uses p u b r) (λ c. alt_uses k u b c) (λ r l. h.uses u b r l))

    same_alt : (ranges : List (ℕ × ℕ)) (u : ℕ) → least_alt k ranges grouped 1024 u ≡ least_alt p ranges spread 1024 u
    same_alt ranges u = ap (λ f. first_least (low_of ranges u) (high_of ranges u) f) (fun_ext (λ b. same_cost u b))

    same_least : (ranges : List (ℕ × ℕ)) (u : ℕ) → unit_least k ranges grouped 1024 u ≡ unit_least p ranges spread 1024 u
    same_least ranges u = ap (λ f. least_within (low_of ranges u) (high_of ranges u) f) (fun_ext (λ b. same_cost u b))

    same_load : (ranges : List (ℕ × ℕ)) (r : ℕ) → r < resource_count p →
        least_alt_load k ranges grouped 1024 (unit_count k) (slice_index classes r) ≡ least_alt_load p ranges spread 1024 (unit_count p) r
    same_load ranges r l =
        ap (λ n. least_alt_load k ranges grouped 1024 n (slice_index classes r)) h.units
        ∙ sum_below-same (unit_count p) (λ u. alt_uses k u (least_alt k ranges grouped 1024 u) (slice_index classes r)) (λ u. alt_uses p u (least_alt p ranges spread 1024 u) r)
        (λ u m. h.uses u (least_alt k ranges grouped 1024 u) r l ∙ ap (λ b. alt_uses p u b r) (same_alt ranges u))

    same_total : (ranges : List (ℕ × ℕ)) → least_total k ranges grouped 1024 ≡ least_total p ranges spread 1024
    same_total ranges =
        ap (λ n. sum_below n (λ u. unit_least k ranges grouped 1024 u)) h.units
        ∙ sum_below-same (unit_count p) (λ u. unit_least k ranges grouped 1024 u) (λ u. unit_least p ranges spread 1024 u) (λ u m. same_least ranges u)

    same_bound : (ranges : List (ℕ × ℕ)) → bound_of k ranges grouped 1024 ≡ bound_of p ranges spread 1024
    same_bound ranges =
        ap (λ n. pos n -ℤ pos (priced grouped (λ r. limit_of k r))) (same_total ranges)
        ∙ ap (λ n. pos (least_total p ranges spread 1024) -ℤ pos n) (same_priced (λ r. limit_of p r) (λ c. limit_of k c) (λ r l. h.limits r l))

    -- the point of weighted prices of classes is that of the prices of resources
    pub IsPoint-by : (ranges : List (ℕ × ℕ)) (loads : List ℕ) (bound : ℤ) → IsPoint k ranges 1024 weighted loads bound →
        IsPoint p ranges 1024 (by_classes classes prices) (by_classes classes loads) bound
    IsPoint-by ranges loads bound b = record {
      prices = ArePrices-by prices a;
      load_count = count-by loads;
      loads_are = λ r l. at-by loads r l ∙ b.loads_are (slice_index classes r) (h.there r l) ∙ same_load ranges r l;
      few = λ r l. omega (arith, at-by loads r l, b.few (slice_index classes r) (h.there r l));
      bound_is = b.bound_is ∙ same_bound ranges;
    }
