-- Driven trees: those that a search by visits makes, whatever the order in which it visits.
use Rattle.std.specs.Prelude.{◌≡◌, ℕ, ◌≤◌, List, [], ◌∷◌, All, Contains, Option, Some, None, ◌⊎◌}
use Rattle.choice_problem.specs.declared.vectors.Price.{Price}
use Rattle.choice_problem.specs.declared.nodes.Node.{Node}
use Rattle.choice_problem.specs.declared.nodes.Node.TheVariants.{Split, Leaf, Over, Undone}
use Rattle.choice_problem.specs.Problems.{ProblemView}
use Rattle.choice_problem.specs.Bounds.{whole_of}
use Rattle.choice_problem.specs.Trees.{AreTrees, LeafHolds, OverHolds, CanSplit}
use Rattle.choice_problem.specs.Greedy.{IsGreedyCost}
use Rattle.choice_problem.specs.Roots.{IsRootVector}
use Rattle.choice_problem.specs.Splits.{StaysOpen, IsCheapest, IsSplitAt}

-- a split is of ranges that nothing closes and whose cheapest choice does not fit, by the split rule; a leaf closes for
-- what was seen there
abbrev pub IsDrivenNode : ProblemView → List (List Price) → List Price → List (ℕ × ℕ) → Node →
    Type 0
IsDrivenNode p vectors root ranges (Split unit cut seen) =
    StaysOpen p root ranges seen × CanSplit ranges unit cut
    × ((x : List ℕ) × (r : ℕ) × (IsCheapest p ranges x × IsSplitAt p ranges x r unit cut))
IsDrivenNode p vectors root ranges (Leaf vector scale seen) =
    LeafHolds p vectors seen ranges vector scale
IsDrivenNode p vectors root ranges (Over resource) = OverHolds p ranges resource
IsDrivenNode p vectors root ranges Undone = Unit {0}

-- driven nodes, in trees on the pending ranges
abbrev pub AreDriven : ProblemView → List (List Price) → List Price → List (List (ℕ × ℕ)) →
    List Node → Type 0
AreDriven p vectors root pending nodes =
    AreTrees (λ ranges node. IsDrivenNode p vectors root ranges node) pending nodes

-- a cost that was seen is at least the result and at most the greedy cost; none was seen only where there is no greedy
-- choice, and no cost was seen where the result is none
abbrev pub IsSeenBetween : Option ℕ → Option ℕ → Option ℕ → Type 0
IsSeenBetween result greedy None = greedy ≡ None
IsSeenBetween None greedy (Some seen) = ⊥
IsSeenBetween (Some result) None (Some seen) = result ≤ seen
IsSeenBetween (Some result) (Some greedy) (Some seen) = (result ≤ seen) × (seen ≤ greedy)

abbrev pub RecordsBetween : Option ℕ → Option ℕ → Node → Type 0
RecordsBetween result greedy (Split unit cut seen) = IsSeenBetween result greedy seen
RecordsBetween result greedy (Leaf vector scale seen) = IsSeenBetween result greedy seen
RecordsBetween result greedy (Over resource) = Unit {0}
RecordsBetween result greedy Undone = Unit {0}

abbrev pub Records : Option ℕ → Node → Type 0
Records result (Split unit cut seen) = seen ≡ result
Records result (Leaf vector scale seen) = seen ≡ result
Records result (Over resource) = ⊥
Records result Undone = ⊥

-- the tree is driven for a result from this greedy cost and this root vector: the recorded costs lie between, and the result
-- is the least of them and of the greedy cost
pub record IsDrivenFrom (p : ProblemView) (vectors : List (List Price)) (root : List Price)
    (greedy result : Option ℕ) (nodes : List Node) : Type 0 where
  pub trees : AreDriven p vectors root (whole_of p ∷ []) nodes
  pub between : All (RecordsBetween result greedy) nodes
  pub reached : (result ≡ greedy) ⊎ ((node : Node) × Contains nodes node × Records result node)

-- the same from the problem's own greedy cost and root vector
pub record IsDriven (p : ProblemView) (vectors : List (List Price)) (result : Option ℕ)
    (nodes : List Node) : Type 0 where
  pub greedy : Option ℕ
  pub root : List Price
  pub greedy_is : IsGreedyCost p greedy
  pub root_is : IsRootVector p root
  pub tree : IsDrivenFrom p vectors root greedy result nodes
