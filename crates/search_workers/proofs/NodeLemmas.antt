-- Nodes and trees.
use Rattle.std.proofs.Common.{◌≡◌, ℕ, zero, suc, ◌+◌, ◌≤◌, List, [], ◌∷◌, ◌++◌, length, refl, arith, Option, None, append_assoc}
use Rattle.std.specs.Prelude.{All, replicate}
use Rattle.std.proofs.lemmas.List.Elements.{All-cons, All-nil}
use Rattle.choice_problem.specs.declared.nodes.Node.{Node}
use Rattle.choice_problem.specs.declared.nodes.Node.TheVariants.{Split, Leaf, Over, Undone}
use Rattle.choice_problem.specs.Trees.{AreTrees, parts_of, node_count}
use Rattle.choice_problem.specs.Driven.{RecordsBetween}
use Rattle.choice_problem.specs.Named.{NamesUpTo}
use Rattle.search_workers.specs.Settings.{Setting, AreGrown}

pub node_count-append : (xs ys : List Node) → node_count (xs ++ ys) ≡ node_count xs + node_count ys
node_count-append [] ys = omega arith
node_count-append (Split unit cut seen ∷ xs) ys = omega (arith, node_count-append xs ys)
node_count-append (Leaf vector scale seen ∷ xs) ys = omega (arith, node_count-append xs ys)
node_count-append (Over resource ∷ xs) ys = omega (arith, node_count-append xs ys)
node_count-append (Undone ∷ xs) ys = node_count-append xs ys

-- trees on two lists of ranges, one after the other
pub AreTrees-append : (Holds : List (ℕ × ℕ) → Node → Type 0) (first second : List (List (ℕ × ℕ))) (nodes more : List Node) →
    AreTrees Holds first nodes → AreTrees Holds second more → AreTrees Holds (first ++ second) (nodes ++ more)
AreTrees-append Holds [] second [] more h k = k
AreTrees-append Holds [] second (node ∷ nodes) more h k = absurd h
AreTrees-append Holds (ranges ∷ first) second [] more h k = absurd h
AreTrees-append Holds (ranges ∷ first) second (node ∷ nodes) more h k =
    let rest = AreTrees-append Holds (parts_of ranges node ++ first) second nodes more h.1 k in
    (h.0, rw append_assoc at rest)

pub undone_trees : (s : Setting) (pending : List (List (ℕ × ℕ))) → AreGrown s pending (replicate (length pending) Undone)
undone_trees s [] = tt
undone_trees s (ranges ∷ pending) = (tt, undone_trees s pending)

pub All-undone : (cost greedy : Option ℕ) (n : ℕ) → All (RecordsBetween cost greedy) (replicate n Undone)
All-undone cost greedy zero = All-nil (RecordsBetween cost greedy)
All-undone cost greedy (suc n) = All-cons (RecordsBetween cost greedy) Undone (replicate n Undone) tt (All-undone cost greedy n)

pub undone-counts : (n : ℕ) → node_count (replicate n Undone) ≡ 0
undone-counts zero = refl
undone-counts (suc n) = undone-counts n

abbrev pub no_node : Node
no_node = Split 0 0 None

-- what names few vectors names few more
pub names_more : (most more : ℕ) (node : Node) → most ≤ more → NamesUpTo most node → NamesUpTo more node
names_more most more (Split unit cut seen) l h = tt
names_more most more (Leaf vector scale seen) l h = omega (arith, l, h)
names_more most more (Over resource) l h = tt
names_more most more Undone l h = tt
