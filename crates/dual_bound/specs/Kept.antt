-- Problems on some of the resources of another one: those that its units can pass, or the first of each class of equal
-- ones.
use Rattle.std.specs.Prelude.{◌≡◌, ℕ, ◌+◌, ◌<◌, ◌≤◌, ◌^◌, ◌-◌, ◌⊎◌, min, List, length, slice_index, slice_index_or, nat_lt, if◌then◌else◌, Bool, true, false, Option, Some}
use Rattle.choice_problem.specs.declared.strips.Strip.{Strip}
use Rattle.choice_problem.specs.declared.problems.Alt.{Alt}
use Rattle.finite_sums.specs.Sums.{sum_below}
use Rattle.choice_problem.specs.Strips.{part_uses}
use Rattle.choice_problem.specs.Problems.{ProblemView, ChooserView, unit_count, alt_count, resource_count, chooser_at, part_at, alt_uses, limit_of}
use Rattle.price_table.specs.Tables.{alt_in}

-- at each place from 0 to n how many of the resources before it are kept
pub record AreRanks (n : ℕ) (ranks : List ℕ) : Type 0 where
  pub count : length ranks ≡ n + 1
  pub first : slice_index ranks 0 ≡ 0
  pub rises : (r : ℕ) → r < n → slice_index ranks r ≤ slice_index ranks (r + 1)
  pub by_one : (r : ℕ) → r < n → slice_index ranks (r + 1) ≤ slice_index ranks r + 1

-- whether the resource is kept
abbrev pub IsKept : List ℕ → ℕ → Type 0
IsKept ranks r = slice_index ranks r < slice_index ranks (r + 1)

-- how many are kept
abbrev pub kept_count : ProblemView → List ℕ → ℕ
kept_count p ranks = slice_index ranks (resource_count p)

-- whatever alternatives the units take, the resource is not used above its limit
abbrev pub IsNeverPassed : ProblemView → ℕ → Type 0
IsNeverPassed p r = (x : ℕ → ℕ) → ((u : ℕ) → u < unit_count p → x u < alt_count p u) →
    sum_below (unit_count p) (λ u. alt_uses p u (x u) r) ≤ limit_of p r

-- ranks of resources of the problem, of which each that is not kept cannot be passed
pub record KeepPassed (p : ProblemView) (ranks : List ℕ) : Type 0 where
  pub ranks_are : AreRanks (resource_count p) ranks
  pub rest : (r : ℕ) → r < resource_count p → slice_index ranks (r + 1) ≤ slice_index ranks r →
      IsNeverPassed p r

-- a lower resource is listed that has the same limit and that each alternative uses equally often
pub record HasListedEqual (p : ProblemView) (list : List ℕ) (r : ℕ) : Type 0 where
  pub place : ℕ
  pub there : place < length list
  pub lower : slice_index list place < r
  pub limit : limit_of p (slice_index list place) ≡ limit_of p r
  pub uses : (u a : ℕ) → alt_uses p u a (slice_index list place) ≡ alt_uses p u a r

-- resources of the problem by rising number; each other one cannot be passed, or has a lower equal one among them
pub record ListPassable (p : ProblemView) (list : List ℕ) : Type 0 where
  pub rising : (i j : ℕ) → i < j → j < length list → slice_index list i < slice_index list j
  pub there : (i : ℕ) → i < length list → slice_index list i < resource_count p
  pub rest : (r : ℕ) → r < resource_count p →
      ((i : ℕ) → i < length list → slice_index list i ≡ r → ⊥) →
      IsNeverPassed p r ⊎ HasListedEqual p list r

-- of the first n resources those whose counts are above their limits
pub record AreAbove (p : ProblemView) (counts : List ℕ) (n : ℕ) (list : List ℕ) : Type 0 where
  pub rising : (i j : ℕ) → i < j → j < length list → slice_index list i < slice_index list j
  pub there : (i : ℕ) → i < length list → slice_index list i < n
  pub rest : (r : ℕ) → r < n →
      ((i : ℕ) → i < length list → slice_index list i ≡ r → ⊥) →
      slice_index counts r ≤ limit_of p r
  pub small : (r : ℕ) → r < n → limit_of p r < 2 ^ 20

-- the strips use the kept resources, by their ranks, as often as others use them
abbrev pub UseKept : ProblemView → List ℕ → List Strip → List Strip → Type 0
UseKept p ranks strips others = (r : ℕ) → r < resource_count p → IsKept ranks r →
    part_uses strips (slice_index ranks r) ≡ part_uses others r

-- a unit with the same alternatives, whose parts use the kept resources alone
pub record IsUnitOnKept (p : ProblemView) (ranks : List ℕ) (m k : ChooserView) : Type 0 where
  pub alts : k.alts ≡ m.alts
  pub parts : length k.parts ≡ length m.parts
  pub uses : (n : ℕ) → n < length m.parts → UseKept p ranks (part_at k n) (part_at m n)

-- a problem with the same units, whose resources are the kept ones of another
pub record IsOnKept (p : ProblemView) (ranks : List ℕ) (k : ProblemView) : Type 0 where
  pub units : unit_count k ≡ unit_count p
  pub each : (u : ℕ) → u < unit_count p → IsUnitOnKept p ranks (chooser_at p u) (chooser_at k u)
  pub resources : resource_count k ≡ kept_count p ranks
  pub limits : (r : ℕ) → r < resource_count p → IsKept ranks r →
      limit_of k (slice_index ranks r) ≡ limit_of p r

-- the price of a resource by the prices of the kept ones: those that are not kept are free
abbrev pub price_in : List ℕ → List ℕ → ℕ → ℕ
price_in ranks prices r =
    if nat_lt (slice_index ranks r) (slice_index ranks (r + 1))
    then slice_index prices (slice_index ranks r)
    else 0

-- the prices of the first n resources by those of the kept ones
pub record AreSpread (n : ℕ) (ranks prices spread : List ℕ) : Type 0 where
  pub count : length spread ≡ n
  pub each : (r : ℕ) → r < n → slice_index spread r ≡ price_in ranks prices r

-- counts are at least these numbers, as far as 32 bits hold them
abbrev pub AreAtLeast : List ℕ → (ℕ → ℕ) → Type 0
AreAtLeast counts numbers = (r : ℕ) → r < length counts →
    min (numbers r) (2 ^ 32 - 1) ≤ slice_index counts r

-- counts at least as great as before
abbrev pub AreRaised : List ℕ → List ℕ → Type 0
AreRaised old new = (r : ℕ) → r < length old → slice_index old r ≤ slice_index new r

-- the part that an alternative names first, or second
abbrev pub named_part : Bool → Alt → Option ℕ
named_part false alt = alt.one
named_part true alt = alt.two

-- the marks mark each part that one of the first n alternatives names first, or second
abbrev pub MarkNamed : Bool → List Alt → ℕ → List Bool → Type 0
MarkNamed second alts n marks = (a k : ℕ) → a < n → named_part second (alt_in alts a) ≡ Some k →
    slice_index_or marks k false ≡ true

-- the parts that alternatives name first, or second, are there
abbrev pub AreNamed : Bool → List Alt → ℕ → Type 0
AreNamed second alts parts = (a k : ℕ) → a < length alts →
    named_part second (alt_in alts a) ≡ Some k → k < parts
