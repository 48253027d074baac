-- The vectors that the leaves of a tree name, and trees over fewer vectors.
use Rattle.std.proofs.Common.{ℕ, ◌≤◌, arith, List, [], ◌∷◌, ◌++◌, length, Option, Some, None}
use Rattle.std.specs.Prelude.{All}
use Rattle.std.specs.List.{AllZip}
use Rattle.std.proofs.lemmas.List.Elements.{All-head, All-tail}
use Rattle.choice_problem.specs.declared.vectors.Price.{Price}
use Rattle.choice_problem.specs.declared.nodes.Node.{Node}
use Rattle.choice_problem.specs.declared.nodes.Node.TheVariants.{Split, Leaf, Over, Undone}
use Rattle.choice_problem.specs.Problems.{ProblemView}
use Rattle.choice_problem.specs.Bounds.{whole_of}
use Rattle.choice_problem.specs.Trees.{AreTrees, AreSound, NodeHolds, LeafHolds, parts_of}
use Rattle.choice_problem.specs.Grafts.{open_ranges}
use Rattle.choice_problem.specs.Floors.{AreFloors}
use Rattle.choice_problem.specs.Driven.{IsDrivenNode, AreDriven, IsDriven}
use Rattle.choice_problem.specs.Named.{NamesUpTo}
use Rattle.choice_problem.proofs.DrivenLemmas.{vector_at-append}

LeafHolds-fewer : (p : ProblemView) (vectors more : List (List Price)) (cost : Option ℕ) (ranges : List (ℕ × ℕ)) (vector scale : ℕ) → vector ≤ length vectors →
    LeafHolds p (vectors ++ more) cost ranges vector scale → LeafHolds p vectors cost ranges vector scale
LeafHolds-fewer p vectors more cost ranges vector scale l h = record {
  there = l;
  small = h.small;
  closes = rw (vector_at-append vectors more vector l) at h.closes;
}

node_fewer : (p : ProblemView) (vectors more : List (List Price)) (cost : Option ℕ) (ranges : List (ℕ × ℕ)) (node : Node) → NamesUpTo (length vectors) node →
    NodeHolds p (vectors ++ more) cost ranges node → NodeHolds p vectors cost ranges node
node_fewer p vectors more cost ranges (Split unit cut seen) l h = h
node_fewer p vectors more cost ranges (Leaf vector scale seen) l h = LeafHolds-fewer p vectors more cost ranges vector scale l h
node_fewer p vectors more cost ranges (Over resource) l h = h
node_fewer p vectors more cost ranges Undone l h = h

driven_fewer : (p : ProblemView) (vectors more : List (List Price)) (root : List Price) (ranges : List (ℕ × ℕ)) (node : Node) → NamesUpTo (length vectors) node →
    IsDrivenNode p (vectors ++ more) root ranges node → IsDrivenNode p vectors root ranges node
driven_fewer p vectors more root ranges (Split unit cut seen) l h = h
driven_fewer p vectors more root ranges (Leaf vector scale seen) l h = LeafHolds-fewer p vectors more seen ranges vector scale l h
driven_fewer p vectors more root ranges (Over resource) l h = h
driven_fewer p vectors more root ranges Undone l h = h

-- what follows from what each node promises and another fact of it
trees_with : (Holds Keeps : List (ℕ × ℕ) → Node → Type 0) (Also : Node → Type 0) → ((ranges : List (ℕ × ℕ)) (node : Node) → Also node → Holds ranges node → Keeps ranges node) →
    (pending : List (List (ℕ × ℕ))) (nodes : List Node) → All Also nodes → AreTrees Holds pending nodes → AreTrees Keeps pending nodes
trees_with Holds Keeps Also into [] [] a h = tt
trees_with Holds Keeps Also into [] (node ∷ nodes) a h = absurd h
trees_with Holds Keeps Also into (ranges ∷ pending) [] a h = absurd h
trees_with Holds Keeps Also into (ranges ∷ pending) (node ∷ nodes) a h =
    (into ranges node (All-head Also node nodes a) h.0, trees_with Holds Keeps Also into (parts_of ranges node ++ pending) nodes (All-tail Also node nodes a) h.1)

pub AreSound-fewer : (p : ProblemView) (vectors more : List (List Price)) (cost : Option ℕ) (pending : List (List (ℕ × ℕ))) (nodes : List Node) →
    All (NamesUpTo (length vectors)) nodes → AreSound p (vectors ++ more) cost pending nodes → AreSound p vectors cost pending nodes
AreSound-fewer p vectors more cost pending nodes a h =
    trees_with (λ ranges node. NodeHolds p (vectors ++ more) cost ranges node) (λ ranges node. NodeHolds p vectors cost ranges node)
    (NamesUpTo (length vectors)) (λ ranges node l k. node_fewer p vectors more cost ranges node l k) pending nodes a h

pub AreDriven-fewer : (p : ProblemView) (vectors more : List (List Price)) (root : List Price) (pending : List (List (ℕ × ℕ))) (nodes : List Node) →
    All (NamesUpTo (length vectors)) nodes → AreDriven p (vectors ++ more) root pending nodes → AreDriven p vectors root pending nodes
AreDriven-fewer p vectors more root pending nodes a h =
    trees_with (λ ranges node. IsDrivenNode p (vectors ++ more) root ranges node) (λ ranges node. IsDrivenNode p vectors root ranges node)
    (NamesUpTo (length vectors)) (λ ranges node l k. driven_fewer p vectors more root ranges node l k) pending nodes a h

pub IsDriven-fewer : (p : ProblemView) (vectors more : List (List Price)) (result : Option ℕ) (nodes : List Node) →
    All (NamesUpTo (length vectors)) nodes → IsDriven p (vectors ++ more) result nodes → IsDriven p vectors result nodes
IsDriven-fewer p vectors more result nodes a d = record {
  greedy = d.greedy;
  root = d.root;
  greedy_is = d.greedy_is;
  root_is = d.root_is;
  tree = record {
    trees = AreDriven-fewer p vectors more d.root (whole_of p ∷ []) nodes a d.tree.trees;
    between = d.tree.between;
    reached = d.tree.reached;
  };
}

floors_fewer : (p : ProblemView) (vectors more : List (List Price)) (cost : Option ℕ) (pieces : List (List (ℕ × ℕ))) (floors : List (ℕ × ℕ)) →
    All (λ named. named.0 ≤ length vectors) floors → AllZip (λ ranges named. LeafHolds p (vectors ++ more) cost ranges named.0 named.1) pieces floors →
    AllZip (λ ranges named. LeafHolds p vectors cost ranges named.0 named.1) pieces floors
floors_fewer p vectors more cost [] [] a h = tt
floors_fewer p vectors more cost [] (named ∷ floors) a h = absurd h
floors_fewer p vectors more cost (ranges ∷ rest) [] a h = absurd h
floors_fewer p vectors more cost (ranges ∷ rest) (named ∷ floors) a h = (
  LeafHolds-fewer p vectors more cost ranges named.0 named.1 (All-head (λ (k : ℕ × ℕ). k.0 ≤ length vectors) named floors a) h.0,
  floors_fewer p vectors more cost rest floors (All-tail (λ (k : ℕ × ℕ). k.0 ≤ length vectors) named floors a) h.1,
)

pub AreFloors-fewer : (p : ProblemView) (vectors more : List (List Price)) (floor : ℕ) (nodes : List Node) (floors : List (ℕ × ℕ)) →
    All (λ named. named.0 ≤ length vectors) floors → AreFloors p (vectors ++ more) floor nodes floors → AreFloors p vectors floor nodes floors
AreFloors-fewer p vectors more floor nodes floors a h = floors_fewer p vectors more (Some floor) (open_ranges (whole_of p ∷ []) nodes) floors a h

-- ---- the greatest number that leaves name

abbrev pub no_node : Node
no_node = Split 0 0 None

-- what names few vectors names few more
pub names_more : (most more : ℕ) (node : Node) → most ≤ more → NamesUpTo most node →
    NamesUpTo more node
names_more most more (Split unit cut seen) l h = tt
names_more most more (Leaf vector scale seen) l h = omega (arith, l, h)
names_more most more (Over resource) l h = tt
names_more most more Undone l h = tt
