-- Least loads that are kept while the ranges change. Contracts of private functions alone cite
-- this.
use Rattle.std.specs.Prelude.{◌≡◌, ℕ, ◌<◌, List, length, Option, None, IfSome, slice_index, slice_index_or}
use Rattle.choice_problem.specs.Problems.{ProblemView, unit_count}
use Rattle.choice_problem.specs.Bounds.{AreRanges, least_load, whole_of}
use Rattle.cert_checker.specs.declared.loads.Loads.{Loads}
use Rattle.kept_bounds.specs.Changes.{AgreeBut}
use Rattle.cert_checker.specs.KeptLoads.{AreKeptLoads}

-- for each of these resources its least load in these ranges, once that was found
pub record AreWholeLoads (p : ProblemView) (whole : List (ℕ × ℕ)) (named : List ℕ)
    (known : List (Option ℕ)) : Type 0 where
  pub count : length known ≡ length named
  pub each : (i : ℕ) → IfSome (slice_index_or known i None)
      (λ load. load ≡ least_load p whole (slice_index named i))

-- all units but the changed ones have all their alternatives in range, and what is kept is of these
-- ranges, after these changes
pub record IsLoadState (p : ProblemView) (ranges : List (ℕ × ℕ)) (changes : List ℕ)
    (l : Loads) : Type 0 where
  pub whole : l.whole ≡ whole_of p
  pub valid : AreRanges p l.whole
  pub most : l.changed.most ≡ unit_count p
  pub others : AgreeBut l.changed.units l.whole ranges
  pub known : AreWholeLoads p l.whole l.named.items l.known.items
  pub some : 0 < length l.kept.items
  pub kept : AreKeptLoads p ranges l.whole changes l.changed.units l.kept.items
