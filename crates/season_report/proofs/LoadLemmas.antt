-- Counts that are added to loads, one resource after the other.
use Rattle.std.proofs.Common.{◌≡◌, ℕ, ◌+◌, ◌<◌, ◌≤◌, inl, inr, refl, ◌∙◌, subst, arith, List, length, set}
use Rattle.std.specs.Prelude.{slice_index}
use Rattle.std.proofs.lemmas.Bool.{cases_lt}
use Rattle.std.proofs.lemmas.List.{length-set, get_or-set_same, get_or-set_other}
use Rattle.choice_problem.specs.Counts.{GrowsBy}

-- the first so many loads have their counts too
pub record IsAddedTo (old now counts : List ℕ) (n : ℕ) : Type 0 where
  pub length : length now ≡ length old
  pub added : (r : ℕ) → r < n → slice_index now r ≡ slice_index old r + slice_index counts r
  pub left : (r : ℕ) → n ≤ r → slice_index now r ≡ slice_index old r

pub added_start : (old counts : List ℕ) → IsAddedTo old old counts 0
added_start old counts = record { length = refl; added = λ r lt. absurd (omega arith); left = λ r le. refl }

pub added_next : (old now counts : List ℕ) (n v : ℕ) → IsAddedTo old now counts n → n < length now → v ≡ slice_index now n + slice_index counts n → IsAddedTo old (set now n v) counts (n + 1)
added_next old now counts n v is lt value = record {
  length = length-set now n v ∙ is.length;
  added = λ r below. elim (cases_lt r n) as (λ w. slice_index (set now n v) r ≡ slice_index old r + slice_index counts r) [
    | inl before ↦ get_or-set_other now n r v 0 (λ e. let no : ⊥ = omega (arith, e, before) in no) ∙ is.added r before
    | inr here ↦
        let same : n ≡ r = omega arith in
        let own : slice_index (set now n v) n ≡ slice_index old n + slice_index counts n = get_or-set_same now n v 0 lt ∙ omega (arith, value, is.left n (omega arith)) in
        subst (λ (k : ℕ). slice_index (set now n v) k ≡ slice_index old k + slice_index counts k) same own
  ];
  left = λ r above. get_or-set_other now n r v 0 (λ e. let no : ⊥ = omega (arith, e, above) in no) ∙ is.left r (omega arith);
}

pub added_all : (old now counts : List ℕ) (n : ℕ) → IsAddedTo old now counts n → length old ≤ n → GrowsBy old now (λ r. slice_index counts r)
added_all old now counts n is past r lt = is.added r (omega arith)
