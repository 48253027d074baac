-- Forms of loops and of types: contracts of private functions alone cite them.
use Rattle.std.specs.Prelude.{◌≡◌, ℕ, ◌<◌, ◌≤◌, List, [], length, slice_index_or, slice_set, All}
use Rattle.choice_problem.specs.Problems.{ProblemView, unit_count, alt_count}
use Rattle.choice_problem.specs.Bounds.{whole_of}

-- all alternatives of each unit but one, whatever the span of that one is
abbrev pub AreWholeBut : ProblemView → ℕ → List (ℕ × ℕ) → Type 0
AreWholeBut p u ranges = (span : ℕ × ℕ) → slice_set ranges u span ≡ slice_set (whole_of p) u span

-- the numbers of a unit in a list of such numbers for each unit
abbrev pub alts_in : List (List ℕ) → ℕ → List ℕ
alts_in alts u = slice_index_or alts u []

-- some alternatives of each unit, at least one
pub record AreAltsOf (p : ProblemView) (alts : List (List ℕ)) : Type 0 where
  pub count : length alts ≡ unit_count p
  pub some : (u : ℕ) → u < unit_count p → 0 < length (alts_in alts u)
  pub few : (u : ℕ) → u < unit_count p → length (alts_in alts u) ≤ alt_count p u
  pub there : (u : ℕ) → u < unit_count p → All (λ a. a < alt_count p u) (alts_in alts u)

-- one number for each alternative of each unit
pub record IsNumbering (p : ProblemView) (alts : List (List ℕ)) : Type 0 where
  pub count : length alts ≡ unit_count p
  pub each : (u : ℕ) → u < unit_count p → length (alts_in alts u) ≡ alt_count p u
