-- What a visit answers is a node of a driven tree.
use Rattle.std.proofs.Common.{◌≡◌, ◌↔◌, ◌∙◌, ap, Bool, ℕ, zero, suc, ◌+◌, ◌<◌, refl, arith, inl, inr, List, [], ◌∷◌, length, Option}
use Rattle.std.specs.Prelude.{slice_index_or, IsTrue}
use Rattle.price_table.specs.Totals.{TotalsView, AreTotalsFor, AreKeptFor, totals_at}
use Rattle.choice_problem.specs.declared.vectors.Price.{Price}
use Rattle.choice_problem.specs.declared.nodes.Node.{Node}
use Rattle.choice_problem.specs.declared.nodes.Node.TheVariants.{Split, Leaf, Over, Undone}
use Rattle.choice_problem.specs.Problems.{ProblemView}
use Rattle.choice_problem.specs.Choices.{choice_cost}
use Rattle.choice_problem.specs.Bounds.{AreRanges, Closes}
use Rattle.choice_problem.specs.Trees.{LeafHolds}
use Rattle.choice_problem.specs.Driven.{IsDrivenNode}
use Rattle.branch_tree.specs.Visits.{ClosesBy, IsFound, IsSplit, StaysOpenToAll, NeedsPrices, AreOpen, IsClosingLeaf, IsZeroLeaf, IsRootLeaf, IsFurtherLeaf}
use Rattle.branch_tree.proofs.WalkLemmas.{zero-closes}

module _ (p : ProblemView) (root : List Price) (further : List (List Price)) (ranges : List (ℕ × ℕ)) (seen : Option ℕ) where
  zero_leaf : (vector scale : ℕ) → IsZeroLeaf p ranges seen vector scale → LeafHolds p (root ∷ further) seen ranges vector scale
  zero_leaf vector scale h = rw (h.vector_is, h.scale_is) (record { there = omega arith; small = omega arith; closes = h.closes })

  root_leaf : (vector scale : ℕ) → IsRootLeaf p root ranges seen vector scale → LeafHolds p (root ∷ further) seen ranges vector scale
  root_leaf vector scale h = rw (h.vector_is, h.scale_is) (record { there = omega arith; small = omega arith; closes = h.closes })

  further_leaf : (vector scale : ℕ) → IsFurtherLeaf p root further ranges seen vector scale → LeafHolds p (root ∷ further) seen ranges vector scale
  further_leaf vector scale h =
      let e : vector ≡ suc (suc h.place) = omega (arith, h.vector_is) in
      rw (e, h.scale_is) (record { there = omega (arith, h.closes.there); small = omega arith; closes = h.closes.closes })

  pub closed-driven : (leaf : Node) → ClosesBy p root further ranges seen leaf → IsDrivenNode p (root ∷ further) root ranges leaf
  closed-driven (Over r) h = record { there = h.there; over = h.over }
  closed-driven (Leaf vector scale recorded) h = rw h.1.0 (elim h.1.1 [
    | inl z ↦ zero_leaf vector scale z
    | inr more ↦ elim more [
      | inl r ↦ root_leaf vector scale r
      | inr f ↦ further_leaf vector scale f
    ]
  ])
  closed-driven (Split unit cut recorded) h = absurd h
  closed-driven Undone h = absurd h

pub found-driven : (p : ProblemView) (vectors : List (List Price)) (root : List Price) (ranges : List (ℕ × ℕ)) (x : List ℕ) (leaf : Node) →
    AreRanges p ranges → IsFound p ranges x leaf → IsDrivenNode p vectors root ranges leaf
found-driven p vectors root ranges x leaf r h =
    rw h.leaf_is (record { there = omega arith; small = omega arith; closes = zero-closes p ranges x (choice_cost p x) r h.cheapest (omega arith) })

pub split-driven : (p : ProblemView) (vectors : List (List Price)) (root : List Price) (further : List (List Price)) (ranges : List (ℕ × ℕ))
    (seen : Option ℕ) (unit cut : ℕ) → StaysOpenToAll p root further ranges seen → IsSplit p ranges unit cut →
    IsDrivenNode p vectors root ranges (Split unit cut seen)
split-driven p vectors root further ranges seen unit cut s h =
    (s.stays_open, h.within, (h.x, h.resource, (h.cheapest, h.split)))

-- the first of all vectors that closes makes the leaf, and where none does, the ranges stay open
module _ (p : ProblemView) (root : List Price) (further : List (List Price)) (ranges : List (ℕ × ℕ)) (seen : Option ℕ) (needs : NeedsPrices p ranges seen) where
  pub first-leaf : (place : ℕ) → place < length (root ∷ further) → AreOpen p (root ∷ further) place ranges seen →
      Closes p ranges (slice_index_or (root ∷ further) place []) 1024 seen → IsClosingLeaf p root further ranges seen (Leaf (place + 1) 1024 seen)
  first-leaf zero l before closes = (refl, inr (inl (record { vector_is = refl; scale_is = refl; no_zero = needs.no_zero; closes = closes })))
  first-leaf (suc k) l before closes = (
    refl,
    inr (inr (record {
      place = k;
      vector_is = omega arith;
      scale_is = refl;
      no_zero = needs.no_zero;
      no_root = before 0 (omega arith);
      closes = record { there = omega (arith, l); closes = closes; first = λ j m. before (suc j) (omega (arith, m)) };
    })),
  )

  pub none-open : AreOpen p (root ∷ further) (length (root ∷ further)) ranges seen → StaysOpenToAll p root further ranges seen
  none-open none = record {
    stays_open = record { none_over = needs.none_over; no_zero = needs.no_zero; no_root = none 0 (omega arith) };
    no_further = λ k l. none (suc k) (omega (arith, l));
  }

-- what totals that are kept for a vector say is what the vector closes
pub kept-closes : (p : ProblemView) (vectors : List (List Price)) (ranges : List (ℕ × ℕ)) (totals : List TotalsView) (seen : Option ℕ) (place : ℕ) (t : TotalsView) (closed : Bool) →
    AreKeptFor p vectors ranges totals → place < length totals → t ≡ totals_at totals place →
    ((q : ProblemView) (prices : List Price) → AreTotalsFor q prices t → IsTrue closed ↔ Closes q t.ranges prices t.scale seen) →
    IsTrue closed ↔ Closes p ranges (slice_index_or vectors place []) 1024 seen
kept-closes p vectors ranges totals seen place t closed kept l at exact =
    let there : place < length vectors = omega (arith, l, kept.count) in
    let v : List Price = slice_index_or vectors place [] in
    let valid : AreTotalsFor p v t = rw at (kept.each place there) in
    let here : t.ranges ≡ ranges = ap (λ (s : TotalsView). s.ranges) at ∙ kept.at_ranges place there in
    let scaled : t.scale ≡ 1024 = ap (λ (s : TotalsView). s.scale) at ∙ kept.at_scale place there in
    rw (here, scaled) at (exact p v valid)
