-- Trees put in the place of a tree's undone nodes.
use Rattle.std.specs.Prelude.{ℕ, List, [], ◌∷◌, ◌++◌}
use Rattle.choice_problem.specs.declared.nodes.Node.{Node}
use Rattle.choice_problem.specs.declared.nodes.Node.TheVariants.{Split, Leaf, Over, Undone}
use Rattle.choice_problem.specs.Trees.{AreTrees, parts_of}

-- the ranges of the undone nodes, in preorder
abbrev pub open_ranges : List (List (ℕ × ℕ)) → List Node → List (List (ℕ × ℕ))
open_ranges pending [] = []
open_ranges [] (node ∷ nodes) = []
open_ranges (ranges ∷ pending) (Undone ∷ nodes) = ranges ∷ open_ranges pending nodes
open_ranges (ranges ∷ pending) (Split unit cut seen ∷ nodes) =
    open_ranges (parts_of ranges (Split unit cut seen) ++ pending) nodes
open_ranges (ranges ∷ pending) (Leaf vector scale seen ∷ nodes) = open_ranges pending nodes
open_ranges (ranges ∷ pending) (Over resource ∷ nodes) = open_ranges pending nodes

-- the first undone nodes make way for the trees, in preorder
abbrev pub graft : List Node → List (List Node) → List Node
graft [] trees = []
graft (Undone ∷ nodes) [] = Undone ∷ graft nodes []
graft (Undone ∷ nodes) (tree ∷ trees) = tree ++ graft nodes trees
graft (Split unit cut seen ∷ nodes) trees = Split unit cut seen ∷ graft nodes trees
graft (Leaf vector scale seen ∷ nodes) trees = Leaf vector scale seen ∷ graft nodes trees
graft (Over resource ∷ nodes) trees = Over resource ∷ graft nodes trees

-- each of the trees is one tree on the ranges at its place
abbrev pub AreOn : (List (ℕ × ℕ) → Node → Type 0) → List (List (ℕ × ℕ)) → List (List Node) → Type 0
AreOn Holds pieces [] = Unit {0}
AreOn Holds [] (tree ∷ trees) = ⊥
AreOn Holds (ranges ∷ pieces) (tree ∷ trees) =
    AreTrees Holds (ranges ∷ []) tree × AreOn Holds pieces trees
