-- Which vectors the leaves of a tree name, by their numbers in the list.
use Rattle.std.specs.Prelude.{◌≡◌, ◌⊎◌, ℕ, ◌≤◌, List, All, Contains}
use Rattle.choice_problem.specs.declared.nodes.Node.{Node}
use Rattle.choice_problem.specs.declared.nodes.Node.TheVariants.{Split, Leaf, Over, Undone}

-- a leaf names no vector above this number
abbrev pub NamesUpTo : ℕ → Node → Type 0
NamesUpTo most (Split unit cut seen) = Unit {0}
NamesUpTo most (Leaf vector scale seen) = vector ≤ most
NamesUpTo most (Over resource) = Unit {0}
NamesUpTo most Undone = Unit {0}

-- the node is a leaf by this vector
abbrev pub Names : ℕ → Node → Type 0
Names number (Split unit cut seen) = ⊥
Names number (Leaf vector scale seen) = vector ≡ number
Names number (Over resource) = ⊥
Names number Undone = ⊥

-- the greatest number of a vector that a leaf of the tree names; 0 where none does
pub record IsGreatestNamed (tree : List Node) (number : ℕ) : Type 0 where
  pub most : All (NamesUpTo number) tree
  pub named : (number ≡ 0) ⊎ ((leaf : Node) × Contains tree leaf × Names number leaf)
