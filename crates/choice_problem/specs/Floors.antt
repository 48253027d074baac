-- Floors: costs below which the undone nodes of a tree leave no feasible choice either.
use Rattle.std.specs.Prelude.{ℕ, ◌≤◌, List, [], ◌∷◌, Option, Some, None}
use Rattle.std.specs.List.{AllZip}
use Rattle.choice_problem.specs.declared.vectors.Price.{Price}
use Rattle.choice_problem.specs.declared.nodes.Node.{Node}
use Rattle.choice_problem.specs.declared.nodes.Node.TheVariants.{Split, Leaf, Over, Undone}
use Rattle.choice_problem.specs.Problems.{ProblemView}
use Rattle.choice_problem.specs.Bounds.{whole_of}
use Rattle.choice_problem.specs.Trees.{AreTrees, LeafHolds, OverHolds, CanSplit}
use Rattle.choice_problem.specs.Grafts.{open_ranges}

-- a node that holds for the cost, and where it is undone the bound of some vector that is there closes its ranges for it
abbrev pub IsClosedNode : ProblemView → List (List Price) → Option ℕ → List (ℕ × ℕ) → Node → Type 0
IsClosedNode p vectors cost ranges (Split unit cut seen) = CanSplit ranges unit cut
IsClosedNode p vectors cost ranges (Leaf vector scale seen) =
    LeafHolds p vectors cost ranges vector scale
IsClosedNode p vectors cost ranges (Over resource) = OverHolds p ranges resource
IsClosedNode p vectors cost ranges Undone =
    (vector scale : ℕ) × LeafHolds p vectors cost ranges vector scale

-- trees of such nodes on the pending ranges
abbrev pub AreClosed : ProblemView → List (List Price) → Option ℕ → List (List (ℕ × ℕ)) →
    List Node → Type 0
AreClosed p vectors cost pending nodes =
    AreTrees (λ ranges node. IsClosedNode p vectors cost ranges node) pending nodes

-- one tree of such nodes on all alternatives, for a floor
abbrev pub IsFloored : ProblemView → List (List Price) → ℕ → List Node → Type 0
IsFloored p vectors floor nodes = AreClosed p vectors (Some floor) (whole_of p ∷ []) nodes

-- one vector and scale for each undone node, in preorder, whose bound on the node's ranges closes for the floor
abbrev pub AreFloors : ProblemView → List (List Price) → ℕ → List Node → List (ℕ × ℕ) → Type 0
AreFloors p vectors floor nodes floors =
    AllZip (λ ranges named. LeafHolds p vectors (Some floor) ranges named.0 named.1)
    (open_ranges (whole_of p ∷ []) nodes) floors

-- at most the cost, if any
abbrev pub IsAtMost : ℕ → Option ℕ → Type 0
IsAtMost floor None = Unit {0}
IsAtMost floor (Some cost) = floor ≤ cost
