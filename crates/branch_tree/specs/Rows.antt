-- Rows of alternatives: those that name the same first part. Contracts of private functions alone
-- cite them.
use Rattle.std.specs.Prelude.{◌≡◌, ℕ, ◌-◌, ◌<◌, ◌≤◌, Bool, false, true, min, List, length, slice_index}
use Rattle.finite_sums.specs.Sums.{least_within}
use Rattle.choice_problem.specs.Problems.{ProblemView, chooser_at, alt_at, named_uses}
use Rattle.branch_tree.specs.Lists.{times_in}

-- how often the first part that an alternative names uses the resource, and how often the second
abbrev pub one_uses : ProblemView → ℕ → ℕ → ℕ → ℕ
one_uses p u a r = named_uses (chooser_at p u) (alt_at (chooser_at p u) a).one r

abbrev pub two_uses : ProblemView → ℕ → ℕ → ℕ → ℕ
two_uses p u a r = named_uses (chooser_at p u) (alt_at (chooser_at p u) a).two r

-- how often the part that it names first, or second, uses it
abbrev pub side_uses : Bool → ProblemView → ℕ → ℕ → ℕ → ℕ
side_uses false p u a r = one_uses p u a r
side_uses true p u a r = two_uses p u a r

-- the first parts of these alternatives use as much as that of the last
abbrev pub IsRow : ProblemView → ℕ → ℕ → ℕ → Type 0
IsRow p u first last = (a r : ℕ) → first ≤ a → a ≤ last → one_uses p u a r ≡ one_uses p u last r

-- the alternatives up to an end have the second parts of those up to the last of a row, as many as
-- the row has
abbrev pub EndAlike : ProblemView → ℕ → ℕ → ℕ → ℕ → Type 0
EndAlike p u first last end = (back r : ℕ) → back ≤ last - first → two_uses p u (end - back) r
    ≡ two_uses p u (last - back) r

-- the places of the least uses of the second parts of a row at the listed resources; where a list
-- has less, maybe fewer, but no fewer than the list has
pub record AreLeastTwos (p : ProblemView) (listed : List ℕ) (u first last : ℕ)
    (list twos : List ℕ) : Type 0 where
  pub most : (i : ℕ) → i < length listed → times_in twos i
      ≤ least_within first last (λ a. two_uses p u a (slice_index listed i))
  pub enough : (i : ℕ) → i < length listed → min (times_in list i)
      (least_within first last (λ a. two_uses p u a (slice_index listed i))) ≤ times_in twos i
