-- Floors of ranges by one vector more.
use Rattle.std.proofs.Common.{◌≡◌, ℕ, ◌+◌, ◌<◌, ◌≤◌, ap, arith, add-one, List, [], Option, inl, inr}
use Rattle.std.specs.Prelude.{slice_index_or}
use Rattle.std.proofs.lemmas.Bool.{cases_lt}
use Rattle.choice_problem.specs.declared.vectors.Price.{Price}
use Rattle.choice_problem.specs.Problems.{ProblemView}
use Rattle.finite_sums.proofs.SumLemmas.{least_within-one, least_within-more}
use Rattle.choice_problem.specs.Bounds.{Closes}
use Rattle.choice_problem.specs.Trees.{vector_at}
use Rattle.dual_bound.specs.Stated.{IsFloorBy, floor_by, priced_floor, scale_at}

pub ruleset least_steps = (least_within-one, least_within-more)

-- the floor by the next vector, whose prices these are
pub floor_by-next : (p : ProblemView) (ranges : List (ℕ × ℕ)) (vectors : List (List Price)) (n : ℕ) (prices : List Price) →
    slice_index_or vectors n [] ≡ prices → floor_by p ranges vectors (n + 1) ≡ priced_floor p ranges prices
floor_by-next p ranges vectors n prices e = rw add-one (ap (λ v. priced_floor p ranges v) e)

pub IsFloorBy-zero : (p : ProblemView) (ranges : List (ℕ × ℕ)) (vectors : List (List Price)) (floor : ℕ) → floor ≡ floor_by p ranges vectors 0 →
    IsFloorBy p ranges vectors 0 floor 0
IsFloorBy-zero p ranges vectors floor e = record {
  there = omega arith;
  value = e;
  greatest = λ k l. let z : k ≡ 0 = omega arith in rw z (omega (arith, e));
  first = λ k l. absurd (omega arith);
}

module _ (p : ProblemView) (ranges : List (ℕ × ℕ)) (vectors : List (List Price)) (n floor vector next : ℕ)
    (e : next ≡ floor_by p ranges vectors (n + 1)) (h : IsFloorBy p ranges vectors n floor vector) where
  pub IsFloorBy-new : floor < next → IsFloorBy p ranges vectors (n + 1) next (n + 1)
  IsFloorBy-new l = record {
    there = omega arith;
    value = e;
    greatest = λ k m. elim (cases_lt k (n + 1)) [
      | inl below ↦ omega (arith, h.greatest k (omega arith), l)
      | inr last ↦ let s : k ≡ n + 1 = omega arith in rw s (omega (arith, e))
    ];
    first = λ k m. omega (arith, h.greatest k (omega arith), l);
  }

  pub IsFloorBy-old : next ≤ floor → IsFloorBy p ranges vectors (n + 1) floor vector
  IsFloorBy-old l = record {
    there = omega (arith, h.there);
    value = h.value;
    greatest = λ k m. elim (cases_lt k (n + 1)) [
      | inl below ↦ h.greatest k (omega arith)
      | inr last ↦ let s : k ≡ n + 1 = omega arith in rw s (omega (arith, e, l))
    ];
    first = h.first;
  }

-- what the next vector closes, by its number
pub closes-next : (p : ProblemView) (ranges : List (ℕ × ℕ)) (vectors : List (List Price)) (n : ℕ) (prices : List Price) (seen : Option ℕ) →
    slice_index_or vectors n [] ≡ prices → Closes p ranges prices 1024 seen → Closes p ranges (vector_at vectors (n + 1)) (scale_at (n + 1)) seen
closes-next p ranges vectors n prices seen e h = rw (add-one, e) h
