-- What all workers of a search read, and what one visit gives them.
use Rattle.std.specs.Prelude.{◌≡◌, ℕ, ◌<◌, ◌≤◌, List, [], ◌∷◌, ◌++◌, drop, length, slice_index_or, All, Option, Some, None}
use Rattle.choice_problem.specs.declared.vectors.Price.{Price}
use Rattle.choice_problem.specs.declared.nodes.Node.{Node}
use Rattle.choice_problem.specs.declared.nodes.Node.TheVariants as node
use Rattle.choice_problem.specs.Problems.{ProblemView}
use Rattle.choice_problem.specs.Choices.{IsFeasible, choice_cost}
use Rattle.choice_problem.specs.Bounds.{IsVector}
use Rattle.choice_problem.specs.Trees.{AreTrees, node_count}
use Rattle.choice_problem.specs.Driven.{IsDrivenNode}
use Rattle.choice_problem.specs.Greedy.{IsGreedyCost}
use Rattle.choice_problem.specs.Roots.{IsRootVector}
use Rattle.price_table.specs.Tables.{TableView, IsTableFor, vectors_of}
use Rattle.price_table.specs.Totals.{AreKeptFor}
use Rattle.search_workers.specs.declared.places.Place.{Place}
use Rattle.choice_problem.specs.declared.vectors.TheConstants.{MOST_VECTORS, MOST_PRICES}
use Rattle.search_workers.specs.Outcomes.{price_count}

-- the problem, the cost of its greedy choice, and the vectors, the root vector first
pub record Setting : Type 0 where
  pub problem : ProblemView
  pub greedy : Option ℕ
  pub vectors : List (List Price)

abbrev pub root_of : Setting → List Price
root_of s = slice_index_or s.vectors 0 []

-- a setting whose vectors a search may list
pub record IsSetting (s : Setting) : Type 0 where
  pub greedy_is : IsGreedyCost s.problem s.greedy
  pub root_is : IsRootVector s.problem (root_of s)
  pub some : 1 ≤ length s.vectors
  pub few : length s.vectors ≤ MOST_VECTORS
  pub each : All (IsVector s.problem) s.vectors
  pub few_prices : price_count (drop 1 s.vectors) ≤ MOST_PRICES

-- the same with tables, some of which are of vectors that were handed in
pub record AreTables (p : ProblemView) (greedy : Option ℕ) (tables : List TableView)
    (given prices : ℕ) : Type 0 where
  pub setting : IsSetting (record { problem = p; greedy = greedy; vectors = vectors_of tables })
  pub each : All (IsTableFor p) tables
  pub given_there : given < length tables
  pub prices_are : prices ≡ price_count (drop 1 (vectors_of tables))

-- the same problem, with more vectors
pub record IsWider (old new : Setting) : Type 0 where
  pub problem : new.problem ≡ old.problem
  pub greedy : new.greedy ≡ old.greedy
  pub more : List (List Price)
  pub vectors : new.vectors ≡ old.vectors ++ more

-- a node of a driven tree
abbrev pub Drives : Setting → List (ℕ × ℕ) → Node → Type 0
Drives s ranges node = IsDrivenNode s.problem s.vectors (root_of s) ranges node

-- one driven tree on each of the pending ranges
abbrev pub AreGrown : Setting → List (List (ℕ × ℕ)) → List Node → Type 0
AreGrown s pending nodes = AreTrees (λ ranges node. Drives s ranges node) pending nodes

-- a walk of the problem, and totals for each of the vectors at its ranges
pub record IsPlaceIn (s : Setting) (place : Place) : Type 0 where
  pub problem : place.walk.problem ≡ s.problem
  pub kept : AreKeptFor s.problem s.vectors place.walk.ranges place.totals.items

-- the node records this as seen, if it records anything
abbrev pub RecordsSeen : Option ℕ → Node → Type 0
RecordsSeen seen (node.Split unit cut recorded) = recorded ≡ seen
RecordsSeen seen (node.Leaf vector scale recorded) = recorded ≡ seen
RecordsSeen seen (node.Over resource) = Unit {0}
RecordsSeen seen node.Undone = ⊥

abbrev pub IsBelow : ℕ → Option ℕ → Type 0
IsBelow cost None = Unit {0}
IsBelow cost (Some seen) = cost < seen

-- a choice that was found is feasible and costs less than was seen, and the node is its leaf
abbrev pub FoundAt : ProblemView → Option ℕ → Node → Option (List ℕ) → Type 0
FoundAt p seen entry None = RecordsSeen seen entry
FoundAt p seen entry (Some x) = IsFeasible p x × IsBelow (choice_cost p x) seen
    × (entry ≡ node.Leaf 0 1 (Some (choice_cost p x)))

-- what one visit gives: a node of a driven tree, and the choice that was found
pub record IsLook (s : Setting) (ranges : List (ℕ × ℕ)) (seen : Option ℕ) (node : Node)
    (found : Option (List ℕ)) : Type 0 where
  pub driven : Drives s ranges node
  pub counted : node_count (node ∷ []) ≡ 1
  pub choice : FoundAt s.problem seen node found

-- the vectors after the first begin with those that were handed in
pub record HasGiven (s : Setting) (given : List (List Price)) : Type 0 where
  pub more : List (List Price)
  pub vectors : drop 1 s.vectors ≡ given ++ more
