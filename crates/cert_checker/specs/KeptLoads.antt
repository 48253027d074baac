-- Least loads of resources that are kept while the ranges change. Contracts of private functions
-- alone cite this.
use Rattle.std.specs.Prelude.{◌≡◌, ℕ, ◌<◌, ◌≤◌, List, length, Option, None, IfSome, slice_index, slice_index_or}
use Rattle.choice_problem.specs.declared.problems.TheConstants.{MOST_UNITS, MOST_USES}
use Rattle.finite_sums.specs.Sums.{least_within}
use Rattle.choice_problem.specs.Problems.{ProblemView, unit_count, resource_count, alt_uses}
use Rattle.choice_problem.specs.Bounds.{AreRanges, low_of, high_of, least_load}
use Rattle.kept_bounds.specs.Changes.{AgreeBut, HasSeen}
use Rattle.cert_checker.specs.declared.kept_loads.KeptLoad.{KeptLoad}

-- a unit's least number of uses of a resource in its range
abbrev pub least_at : ProblemView → List (ℕ × ℕ) → ℕ → ℕ → ℕ
least_at p ranges r u = least_within (low_of ranges u) (high_of ranges u) (λ a. alt_uses p u a r)

-- each unit's least uses of the resource in its range, and their sum
pub record IsKeptLoad (p : ProblemView) (k : KeptLoad) : Type 0 where
  pub size : unit_count p ≤ MOST_UNITS
  pub there : k.resource < resource_count p
  pub valid : AreRanges p k.ranges
  pub count : length k.uses.items ≡ unit_count p
  pub uses : (u : ℕ) → u < unit_count p →
      slice_index k.uses.items u ≡ least_at p k.ranges k.resource u
  pub few : (u : ℕ) → u < unit_count p → least_at p k.ranges k.resource u ≤ MOST_USES
  pub load : k.load ≡ least_load p k.ranges k.resource

-- places of resources; of a unit that is not marked the range is still its whole one
abbrev pub AreKeptLoads : ProblemView → List (ℕ × ℕ) → List (ℕ × ℕ) → List ℕ → List ℕ →
    List (Option KeptLoad) → Type 0
AreKeptLoads p ranges whole changes marked kept =
    (i : ℕ) → IfSome (slice_index_or kept i None)
    (λ (k : KeptLoad). IsKeptLoad p k × HasSeen k.ranges ranges changes k.seen
    × AgreeBut marked whole k.ranges)
