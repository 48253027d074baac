-- Bounds that are kept while the ranges change.
use Rattle.std.proofs.Common.{◌≡◌, ℕ, zero, suc, ◌-◌, ◌<◌, ◌≤◌, refl, sym, ◌∙◌, ap, subst, arith, List, [], ◌∷◌, ◌++◌, length, map, get_or, inl, inr}
use Rattle.std.specs.Prelude.{All, Option, Some, None, IfSome, ◌↔◌, IsTrue, Bool}
use Rattle.std.proofs.lemmas.Bool.{cases_lt}
use Rattle.std.proofs.lemmas.List.{length-map, get_or_append_left, get_or-append_right}
use Rattle.std.proofs.lemmas.List.Elements.{All-append, All-nil}
use Rattle.choice_problem.specs.declared.vectors.Price.{Price}
use Rattle.choice_problem.specs.declared.closing.TheConstants.{SCALE_BOUND}
use Rattle.choice_problem.specs.Problems.{ProblemView, unit_count}
use Rattle.choice_problem.specs.Bounds.{AreRanges, Closes}
use Rattle.choice_problem.specs.Trees.{LeafHolds, vector_at}
use Rattle.choice_problem.specs.Walks.{AreChanges, ChangesFirst}
use Rattle.price_table.specs.Tables.{TableView, IsTableFor, vectors_of}
use Rattle.price_table.specs.Totals.{TotalsView}
use Rattle.kept_bounds.specs.declared.totals.KeptTotals.{KeptTotals}
use Rattle.kept_bounds.specs.Changes.{HasSeen}
use Rattle.kept_bounds.specs.Kept.{BoundsView, IsKept, AreKept, AreKeptFirst}
use Rattle.kept_bounds.proofs.ChangeLemmas.{seen-more}

-- ---- places

one-item : {X : Type 0} (d : X) (i : ℕ) → get_or (d ∷ []) i d ≡ d
one-item d zero = refl
one-item d (suc i) = refl

-- one more empty place
pub all-push : {X : Type 0} (xs : List X) (d : X) → ((i : ℕ) → get_or xs i d ≡ d) → (i : ℕ) → get_or (xs ++ d ∷ []) i d ≡ d
all-push xs d all i = elim (cases_lt i (length xs)) [
  | inl within ↦ get_or_append_left xs (d ∷ []) d i within ∙ all i
  | inr past ↦ get_or-append_right xs (d ∷ []) (length xs) i d refl (omega (arith, past)) ∙ one-item d (i - length xs)
]

-- ---- what is kept

abbrev pub IsMade : ProblemView → List (List Price) → ℕ → TableView → Type 0
IsMade p vectors i t = IsTableFor p t × (t.prices ≡ vector_at vectors i)

abbrev pub IsFilled : ProblemView → List (List Price) → List (ℕ × ℕ) → List ℕ → ℕ → KeptTotals → Type 0
IsFilled p vectors ranges changes i k = IsKept p (vector_at vectors i) k × HasSeen k.totals.ranges ranges changes k.seen

filled-more : (p : ProblemView) (vectors : List (List Price)) (old new : List (ℕ × ℕ)) (before after : List ℕ) (i : ℕ) (o : Option KeptTotals) → AreChanges old new before after →
    IfSome o (IsFilled p vectors old before i) → IfSome o (IsFilled p vectors new after i)
filled-more p vectors old new before after i None changed h = tt
filled-more p vectors old new before after i (Some k) changed h = (h.0, seen-more k.totals.ranges old new before after k.seen changed h.1)

pub kept-more : (p : ProblemView) (vectors : List (List Price)) (old new : List (ℕ × ℕ)) (before after : List ℕ) (kept : BoundsView) → length old ≡ unit_count p → AreChanges old new before after →
    AreKept p vectors old before kept → AreKept p vectors new after kept
kept-more p vectors old new before after kept count changed are =
    let named : All (λ u. u < unit_count p) changed.more = subst (λ (n : ℕ). All (λ u. u < n) changed.more) count changed.there in
    record {
      there = subst (λ (xs : List ℕ). All (λ u. u < unit_count p) xs) (sym changed.after_is) (All-append (λ u. u < unit_count p) before changed.more are.there named);
      table_count = are.table_count;
      tables = are.tables;
      totals_count = are.totals_count;
      totals = λ i. filled-more p vectors old new before after i (get_or kept.totals i None) changed (are.totals i);
    }

pub first-more : (p : ProblemView) (vectors : List (List Price)) (old new : List (List (ℕ × ℕ))) (before after : List ℕ) (kept : BoundsView) → 0 < length old → All (AreRanges p) old → ChangesFirst old new before after →
    AreKeptFirst p vectors old before kept → AreKeptFirst p vectors new after kept
first-more p vectors [] new before after kept some ranges changed are = absurd (omega arith)
first-more p vectors (now ∷ rest) [] before after kept some ranges changed are = tt
first-more p vectors (now ∷ rest) (next ∷ others) before after kept some ranges changed are =
    kept-more p vectors now next before after kept (ranges 0 now (omega arith)).length changed are

-- nothing is kept yet
pub none-kept : (p : ProblemView) (vectors : List (List Price)) (ranges : List (ℕ × ℕ)) (kept : BoundsView) → length kept.tables ≡ suc (length vectors) → length kept.totals ≡ suc (length vectors) →
    ((i : ℕ) → IfSome (get_or kept.tables i None) (IsMade p vectors i)) → ((i : ℕ) → get_or kept.totals i None ≡ None) → AreKept p vectors ranges [] kept
none-kept p vectors ranges kept tables totals made none = record {
  there = All-nil (λ u. u < unit_count p);
  table_count = tables;
  tables = made;
  totals_count = totals;
  totals = λ i. subst (λ (o : Option KeptTotals). IfSome o (IsFilled p vectors ranges [] i)) (sym (none i)) tt;
}

-- tables of the listed vectors
listed-at : (p : ProblemView) (tables : List TableView) (k : ℕ) → All (IsTableFor p) tables → IfSome (get_or (map (λ (t : TableView). Some t) tables) k None) (λ (t : TableView). IsTableFor p t × (t.prices ≡ get_or (vectors_of tables) k []))
listed-at p [] zero each = tt
listed-at p [] (suc k) each = tt
listed-at p (t ∷ tables) zero each = (each 0 t (omega arith), refl)
listed-at p (t ∷ tables) (suc k) each = listed-at p tables k (λ i d lt. each (suc i) d (omega (arith, lt)))

pub listed-made : (p : ProblemView) (tables : List TableView) → All (IsTableFor p) tables → (i : ℕ) → IfSome (get_or (None ∷ map (λ (t : TableView). Some t) tables) i None) (IsMade p (vectors_of tables) i)
listed-made p tables each zero = tt
listed-made p tables each (suc k) = listed-at p tables k each

pub listed-kept : (p : ProblemView) (ranges : List (ℕ × ℕ)) (tables : List TableView) (kept : BoundsView) → kept.tables ≡ None ∷ map (λ (t : TableView). Some t) tables → length kept.totals ≡ suc (length tables) →
    All (IsTableFor p) tables → ((i : ℕ) → get_or kept.totals i None ≡ None) → AreKept p (vectors_of tables) ranges [] kept
listed-kept p ranges tables kept are totals each none =
    let count : length (vectors_of tables) ≡ length tables = length-map {B = List Price} tables (λ (t : TableView). t.prices) in
    let places : length (map (λ (t : TableView). Some t) tables) ≡ length tables = length-map {B = Option TableView} tables (λ (t : TableView). Some t) in
    none-kept p (vectors_of tables) ranges kept
    (omega (arith, count, places, ap (λ (xs : List (Option TableView)). length xs) are)) (omega (arith, count, totals))
    (subst (λ (xs : List (Option TableView)). (i : ℕ) → IfSome (get_or xs i None) (IsMade p (vectors_of tables) i)) (sym are) (listed-made p tables each)) none

-- what the totals of a vector answer is whether a leaf holds
pub leaf-by_totals : (p : ProblemView) (vectors : List (List Price)) (cost : Option ℕ) (ranges : List (ℕ × ℕ)) (vector scale : ℕ) (t : TotalsView) (holds : Bool) → vector ≤ length vectors → scale < SCALE_BOUND →
    t.ranges ≡ ranges → t.scale ≡ scale → (IsTrue holds ↔ Closes p t.ranges (vector_at vectors vector) t.scale cost) →
    IsTrue holds ↔ LeafHolds p vectors cost ranges vector scale
leaf-by_totals p vectors cost ranges vector scale t holds there small at scale_is answer =
    let closes : (IsTrue holds ↔ Closes p ranges (vector_at vectors vector) scale cost) = rw (← at, ← scale_is) answer in (
      (λ h. record { there = there; small = small; closes = closes.0 h }),
      (λ h. closes.1 h.closes),
    )
