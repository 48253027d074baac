-- Bounds of vectors that are kept while the ranges change.
use Rattle.std.specs.Prelude.{◌≡◌, ℕ, suc, ◌<◌, List, [], ◌∷◌, length, All, Option, None, IfSome, slice_index_or}
use Rattle.choice_problem.specs.declared.vectors.Price.{Price}
use Rattle.choice_problem.specs.Problems.{ProblemView, unit_count}
use Rattle.choice_problem.specs.Trees.{vector_at}
use Rattle.price_table.specs.Tables.{TableView, IsTableFor}
use Rattle.price_table.specs.Totals.{AreTotalsFor}
use Rattle.kept_bounds.specs.declared.totals.KeptTotals.{KeptTotals}
use Rattle.kept_bounds.specs.Changes.{HasSeen}

-- a place for the table of each vector, the zero vector first, and one for its totals
pub record BoundsView : Type 0 where
  pub tables : List (Option TableView)
  pub totals : List (Option KeptTotals)

-- totals at these prices, at the stated scale
pub record IsKept (p : ProblemView) (prices : List Price) (k : KeptTotals) : Type 0 where
  pub totals : AreTotalsFor p prices k.totals
  pub scale : k.totals.scale ≡ k.scale

-- one place for the zero vector and for each of the listed ones: a table, once it is made, is the
-- vector's, and so are the totals, once a leaf has named it
pub record AreKept (p : ProblemView) (vectors : List (List Price)) (ranges : List (ℕ × ℕ))
    (changes : List ℕ) (kept : BoundsView) : Type 0 where
  pub there : All (λ u. u < unit_count p) changes
  pub table_count : length kept.tables ≡ suc (length vectors)
  pub tables : (i : ℕ) → IfSome (slice_index_or kept.tables i None)
      (λ (t : TableView). IsTableFor p t × (t.prices ≡ vector_at vectors i))
  pub totals_count : length kept.totals ≡ suc (length vectors)
  pub totals : (i : ℕ) → IfSome (slice_index_or kept.totals i None)
      (λ (k : KeptTotals). IsKept p (vector_at vectors i) k
      × HasSeen k.totals.ranges ranges changes k.seen)

-- for the first of the pending ranges, if there are any
abbrev pub AreKeptFirst : ProblemView → List (List Price) → List (List (ℕ × ℕ)) → List ℕ →
    BoundsView → Type 0
AreKeptFirst p vectors [] changes kept = Unit {0}
AreKeptFirst p vectors (ranges ∷ rest) changes kept = AreKept p vectors ranges changes kept
