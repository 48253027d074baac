-- Floors of sound trees.
use Rattle.std.proofs.Common.{ℕ, ◌≤◌, List, [], ◌∷◌, ◌++◌, Option, Some, None}
use Rattle.std.specs.Prelude.{All}
use Rattle.std.specs.List.{AllZip}
use Rattle.choice_problem.specs.declared.vectors.Price.{Price}
use Rattle.choice_problem.specs.declared.nodes.Node.{Node}
use Rattle.choice_problem.specs.declared.nodes.Node.TheVariants.{Split, Leaf, Over, Undone}
use Rattle.choice_problem.specs.Problems.{ProblemView}
use Rattle.choice_problem.specs.Choices.{IsFeasible, choice_cost}
use Rattle.choice_problem.specs.Bounds.{IsVector, whole_of}
use Rattle.choice_problem.specs.Trees.{AreSound, IsSound, LeafHolds, vector_at, parts_of}
use Rattle.choice_problem.specs.Grafts.{open_ranges}
use Rattle.choice_problem.specs.Floors.{AreClosed, IsFloored, AreFloors, IsAtMost}
use Rattle.choice_problem.proofs.BoundLemmas.{Closes-None-Some, Closes-smaller}
use Rattle.choice_problem.proofs.TreeLemmas.{closed_whole-beats}

-- a leaf that holds for a cost holds for every floor that is at most the cost
pub LeafHolds-smaller : (p : ProblemView) (vectors : List (List Price)) (cost : Option ℕ) (floor : ℕ) (ranges : List (ℕ × ℕ)) (vector scale : ℕ) →
    IsAtMost floor cost → LeafHolds p vectors cost ranges vector scale → LeafHolds p vectors (Some floor) ranges vector scale
LeafHolds-smaller p vectors None floor ranges vector scale l h =
    record { there = h.there; small = h.small; closes = Closes-None-Some p ranges (vector_at vectors vector) scale floor h.closes }
LeafHolds-smaller p vectors (Some cost) floor ranges vector scale l h =
    record { there = h.there; small = h.small; closes = Closes-smaller p ranges (vector_at vectors vector) scale cost floor l h.closes }

module _ (p : ProblemView) (vectors : List (List Price)) (cost : Option ℕ) (floor : ℕ) (least : IsAtMost floor cost) where
  -- with a floor for each undone node, the nodes of a sound tree are closed for the floor
  pub AreSound-floored : (nodes : List Node) (pending : List (List (ℕ × ℕ))) (floors : List (ℕ × ℕ)) → AreSound p vectors cost pending nodes →
      AllZip (λ ranges named. LeafHolds p vectors (Some floor) ranges named.0 named.1) (open_ranges pending nodes) floors →
      AreClosed p vectors (Some floor) pending nodes
  AreSound-floored [] [] floors s f = s
  AreSound-floored [] (ranges ∷ pending) floors s f = s
  AreSound-floored (node ∷ nodes) [] floors s f = s
  AreSound-floored (Split unit cut seen ∷ nodes) (ranges ∷ pending) floors s f =
      (s.0, AreSound-floored nodes (parts_of ranges (Split unit cut seen) ++ pending) floors s.1 f)
  AreSound-floored (Leaf vector scale seen ∷ nodes) (ranges ∷ pending) floors s f =
      (LeafHolds-smaller p vectors cost floor ranges vector scale least s.0, AreSound-floored nodes pending floors s.1 f)
  AreSound-floored (Over resource ∷ nodes) (ranges ∷ pending) floors s f = (s.0, AreSound-floored nodes pending floors s.1 f)
  AreSound-floored (Undone ∷ nodes) (ranges ∷ pending) [] s f = absurd f
  AreSound-floored (Undone ∷ nodes) (ranges ∷ pending) (named ∷ floors) s f =
      ((named.0, named.1, f.0), AreSound-floored nodes pending floors s.1 f.1)

-- no feasible choice costs less than the floor
pub floored-least : (p : ProblemView) (vectors : List (List Price)) (floor : ℕ) (nodes : List Node) (x : List ℕ) →
    All (IsVector p) vectors → IsFloored p vectors floor nodes → IsFeasible p x → floor ≤ choice_cost p x
floored-least p vectors floor nodes x all t f = closed_whole-beats p vectors (Some floor) nodes x all t f

pub floors-least : (p : ProblemView) (vectors : List (List Price)) (cost : Option ℕ) (floor : ℕ) (nodes : List Node) (floors : List (ℕ × ℕ)) (x : List ℕ) →
    All (IsVector p) vectors → IsSound p vectors cost (whole_of p) nodes → IsAtMost floor cost → AreFloors p vectors floor nodes floors →
    IsFeasible p x → floor ≤ choice_cost p x
floors-least p vectors cost floor nodes floors x all s l fs f =
    floored-least p vectors floor nodes x all (AreSound-floored p vectors cost floor l nodes (whole_of p ∷ []) floors s fs) f
