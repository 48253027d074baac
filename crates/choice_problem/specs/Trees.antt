-- Search trees, as the lists of their nodes in preorder, the low part of a split first.
use Rattle.std.specs.Prelude.{ℕ, zero, suc, ◌-◌, ◌+◌, ◌<◌, ◌≤◌, List, [], ◌∷◌, ◌++◌, length, slice_index_or, slice_set, Option}
use Rattle.choice_problem.specs.declared.vectors.Price.{Price}
use Rattle.choice_problem.specs.declared.nodes.Node.{Node}
use Rattle.choice_problem.specs.declared.closing.TheConstants.{SCALE_BOUND}
use Rattle.choice_problem.specs.declared.nodes.Node.TheVariants.{Split, Leaf, Over, Undone}
use Rattle.choice_problem.specs.Problems.{ProblemView, resource_count}
use Rattle.choice_problem.specs.Bounds.{low_of, high_of, Closes, IsOver}

-- the ranges on either side of a cut
abbrev pub low_part : List (ℕ × ℕ) → ℕ → ℕ → List (ℕ × ℕ)
low_part ranges unit cut = slice_set ranges unit (low_of ranges unit, cut - 1)

abbrev pub high_part : List (ℕ × ℕ) → ℕ → ℕ → List (ℕ × ℕ)
high_part ranges unit cut = slice_set ranges unit (cut, high_of ranges unit)

-- both sides of the cut have an alternative
pub record CanSplit (ranges : List (ℕ × ℕ)) (unit cut : ℕ) : Type 0 where
  pub there : unit < length ranges
  pub above : low_of ranges unit < cut
  pub within : cut ≤ high_of ranges unit

-- vector 0 is the zero vector, and the listed ones follow
abbrev pub vector_at : List (List Price) → ℕ → List Price
vector_at vectors zero = []
vector_at vectors (suc k) = slice_index_or vectors k []

-- a leaf names a vector that is there and a scale in its limit, and closes for the cost or for none
pub record LeafHolds (p : ProblemView) (vectors : List (List Price)) (cost : Option ℕ)
    (ranges : List (ℕ × ℕ)) (vector scale : ℕ) : Type 0 where
  pub there : vector ≤ length vectors
  pub small : scale < SCALE_BOUND
  pub closes : Closes p ranges (vector_at vectors vector) scale cost

-- the resource is there, and its least load passes its limit
pub record OverHolds (p : ProblemView) (ranges : List (ℕ × ℕ)) (resource : ℕ) : Type 0 where
  pub there : resource < resource_count p
  pub over : IsOver p ranges resource

-- what a node promises of its ranges
abbrev pub NodeHolds : ProblemView → List (List Price) → Option ℕ → List (ℕ × ℕ) → Node → Type 0
NodeHolds p vectors cost ranges (Split unit cut seen) = CanSplit ranges unit cut
NodeHolds p vectors cost ranges (Leaf vector scale seen) =
    LeafHolds p vectors cost ranges vector scale
NodeHolds p vectors cost ranges (Over resource) = OverHolds p ranges resource
NodeHolds p vectors cost ranges Undone = Unit {0}

-- the ranges that the trees after a node are on
abbrev pub parts_of : List (ℕ × ℕ) → Node → List (List (ℕ × ℕ))
parts_of ranges (Split unit cut seen) = low_part ranges unit cut ∷ high_part ranges unit cut ∷ []
parts_of ranges (Leaf vector scale seen) = []
parts_of ranges (Over resource) = []
parts_of ranges Undone = []

-- the nodes are exactly one tree for each of the pending ranges, in order, and each node holds on its ranges
abbrev pub AreTrees : (List (ℕ × ℕ) → Node → Type 0) → List (List (ℕ × ℕ)) → List Node → Type 0
AreTrees Holds [] [] = Unit {0}
AreTrees Holds [] (node ∷ nodes) = ⊥
AreTrees Holds (ranges ∷ pending) [] = ⊥
AreTrees Holds (ranges ∷ pending) (node ∷ nodes) =
    Holds ranges node × AreTrees Holds (parts_of ranges node ++ pending) nodes

abbrev pub AreSound : ProblemView → List (List Price) → Option ℕ → List (List (ℕ × ℕ)) → List Node →
    Type 0
AreSound p vectors cost pending nodes =
    AreTrees (λ ranges node. NodeHolds p vectors cost ranges node) pending nodes

-- the nodes are one tree, whatever its nodes promise
abbrev pub IsTree : List Node → Type 0
IsTree nodes = AreTrees (λ ranges node. Unit {0}) ([] ∷ []) nodes

-- one sound tree on these ranges
abbrev pub IsSound : ProblemView → List (List Price) → Option ℕ → List (ℕ × ℕ) → List Node → Type 0
IsSound p vectors cost ranges nodes = AreSound p vectors cost (ranges ∷ []) nodes

-- no node is undone
abbrev pub IsWhole : List Node → Type 0
IsWhole [] = Unit {0}
IsWhole (Split unit cut seen ∷ nodes) = IsWhole nodes
IsWhole (Leaf vector scale seen ∷ nodes) = IsWhole nodes
IsWhole (Over resource ∷ nodes) = IsWhole nodes
IsWhole (Undone ∷ nodes) = ⊥

-- how many splits and closed leaves there are
abbrev pub node_count : List Node → ℕ
node_count [] = 0
node_count (Split unit cut seen ∷ nodes) = node_count nodes + 1
node_count (Leaf vector scale seen ∷ nodes) = node_count nodes + 1
node_count (Over resource ∷ nodes) = node_count nodes + 1
node_count (Undone ∷ nodes) = node_count nodes
