-- Counts above the limits of a problem, as numbers.
use Rattle.std.proofs.Common.{◌≡◌, ℕ, ◌<◌, ◌≤◌, arith, List, length, Option, Some, None, map, pos}
use Rattle.std.specs.Prelude.{slice_index, ℤ, ◌≤ℤ◌, ◌<ℤ◌, IfSome, IfNone}
use Rattle.std.proofs.lemmas.Int.{ints}
use Rattle.std.proofs.lemmas.List.{get_or-map}
use Rattle.choice_problem.specs.Problems.{ProblemView, resource_count, limit_of}
use Rattle.choice_problem.specs.Counts.{IsFirstAbove, limit_at}

limit_at-map : (limits : List ℕ) (r : ℕ) → r < length limits → limit_at (map pos limits) r ≡ pos (slice_index limits r)
limit_at-map limits r l = get_or-map pos limits r 0 (pos 0) l

number_less : (a b : ℕ) (z : ℤ) → z ≡ pos b → z <ℤ pos a → b < a
number_less a b z e h = omega (arith, ints)

number_le : (a b : ℕ) (z : ℤ) → z ≡ pos b → pos a ≤ℤ z → a ≤ b
number_le a b z e h = omega (arith, ints)

module _ (p : ProblemView) (counts : List ℕ) (limits : List ℤ) (e : limits ≡ map pos p.limits) (many : length counts ≡ resource_count p) where
  limit_is : (r : ℕ) → r < resource_count p → limit_at limits r ≡ pos (limit_of p r)
  limit_is r l = rw e (limit_at-map p.limits r l)

  pub above-there : (found : Option ℕ) → IfSome found (IsFirstAbove counts limits) → IfSome found (λ r. r < resource_count p)
  above-there None f = tt
  above-there (Some r) f = omega (arith, f.there)

  pub above-passes : (found : Option ℕ) → IfSome found (IsFirstAbove counts limits) → IfSome found (λ r. limit_of p r < slice_index counts r)
  above-passes None f = tt
  above-passes (Some r) f =
      number_less (slice_index counts r) (limit_of p r) (limit_at limits r) (limit_is r (omega (arith, f.there))) f.above

  pub above-first : (found : Option ℕ) → IfSome found (IsFirstAbove counts limits) →
      IfSome found (λ r. (q : ℕ) → q < r → slice_index counts q ≤ limit_of p q)
  above-first None f = tt
  above-first (Some r) f = λ q l.
      number_le (slice_index counts q) (limit_of p q) (limit_at limits q) (limit_is q (omega (arith, f.there))) (f.first q l)

  pub none-above : (found : Option ℕ) → IfNone found ((r : ℕ) → r < length counts → pos (slice_index counts r) ≤ℤ limit_at limits r) →
      IfNone found ((r : ℕ) → r < resource_count p → slice_index counts r ≤ limit_of p r)
  none-above None f = λ r l. number_le (slice_index counts r) (limit_of p r) (limit_at limits r) (limit_is r l) (f r (omega arith))
  none-above (Some r) f = tt
