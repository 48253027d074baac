-- The shape of trees, by the number of trees that are still to come. Contracts of private functions
-- alone cite it.
use Rattle.std.specs.Prelude.{ℕ, zero, suc, List, [], ◌∷◌}
use Rattle.choice_problem.specs.declared.nodes.Node.{Node}
use Rattle.choice_problem.specs.declared.nodes.Node.TheVariants.{Split, Leaf, Over, Undone}

-- the nodes are so many trees, one after the other
abbrev pub IsShaped : ℕ → List Node → Type 0
IsShaped zero [] = Unit {0}
IsShaped zero (node ∷ nodes) = ⊥
IsShaped (suc n) [] = ⊥
IsShaped (suc n) (Split unit cut seen ∷ nodes) = IsShaped (suc (suc n)) nodes
IsShaped (suc n) (Leaf vector scale seen ∷ nodes) = IsShaped n nodes
IsShaped (suc n) (Over resource ∷ nodes) = IsShaped n nodes
IsShaped (suc n) (Undone ∷ nodes) = IsShaped n nodes

-- after a node so many are to come, whatever follows
abbrev pub GoesOn : ℕ → Node → ℕ → Type 0
GoesOn pending node next =
    (rest : List Node) → (IsShaped pending (node ∷ rest) → IsShaped next rest)
    × (IsShaped next rest → IsShaped pending (node ∷ rest))

-- the nodes left are so many trees exactly where all nodes are one
abbrev pub IsLeft : ℕ → List Node → List Node → Type 0
IsLeft pending left nodes =
    (IsShaped pending left → IsShaped 1 nodes) × (IsShaped 1 nodes → IsShaped pending left)
