-- What the workers of a search did, before and after their seats are joined.
use Rattle.std.specs.Prelude.{◌≡◌, ℕ, ◌+◌, List, [], ◌∷◌, ◌++◌, length, nat_lt, if◌then◌else◌, All, Contains, Option, Some, None, ◌⊎◌}
use Rattle.choice_problem.specs.declared.nodes.Node.{Node}
use Rattle.choice_problem.specs.declared.nodes.Node.TheVariants.{Split, Leaf, Over, Undone}
use Rattle.choice_problem.specs.Trees.{node_count}
use Rattle.choice_problem.specs.Choices.{choice_cost}
use Rattle.choice_problem.specs.Driven.{IsDrivenFrom, IsSeenBetween, RecordsBetween, Records}
use Rattle.choice_problem.specs.Problems.{ProblemView}
use Rattle.choice_problem.specs.Greedy.{IsGreedyCost}
use Rattle.incumbent_word.specs.declared.view.Worker.{Worker}
use Rattle.incumbent_word.specs.declared.view.View.{View}
use Rattle.incumbent_word.specs.Core.{lesser, AtMost}
use Rattle.incumbent_word.specs.Calls.{Posted}
use Rattle.search_workers.specs.declared.states.Start.{Start}
use Rattle.search_workers.specs.Outcomes.{IsBestFound}
use Rattle.search_workers.specs.Settings.{Setting, root_of}

-- a cost that was found is recorded by one of the nodes
abbrev pub IsRecorded : Option ℕ → List Node → Type 0
IsRecorded None nodes = Unit {0}
IsRecorded (Some cost) nodes = (node : Node) × Contains nodes node × Records (Some cost) node

-- What a worker has done: the nodes that it entered, in whatever trees they stand, and the best
-- choice that it found. What it posted is the cost of that choice and is recorded; no node records
-- less than it has seen; each number that it took is one node.
pub record IsWork (s : Setting) (w : Worker) (best : Option (List ℕ))
    (nodes : List Node) : Type 0 where
  pub found : IsBestFound s.problem w.best best
  pub recorded : IsRecorded w.best nodes
  pub now : IsSeenBetween w.seen s.greedy w.seen
  pub between : All (RecordsBetween w.seen s.greedy) nodes
  pub numbers : length w.numbers ≡ node_count nodes

-- one number is taken for a node that is still to be entered
pub record IsAhead (s : Setting) (v : Worker) (best : Option (List ℕ))
    (nodes : List Node) : Type 0 where
  pub before : Worker
  pub work : IsWork s before best nodes
  pub same : v.best ≡ before.best
  pub fell : AtMost v.seen before.seen
  pub more : length v.numbers ≡ length before.numbers + 1

-- the choice of the lesser cost, the first one where neither is less
abbrev pub lesser_choice : Option ℕ → Option ℕ → Option (List ℕ) → Option (List ℕ) → Option (List ℕ)
lesser_choice a None x y = x
lesser_choice None (Some b) x y = y
lesser_choice (Some a) (Some b) x y = if nat_lt b a then y else x

-- a choice that was found is posted, and kept where it is the cheaper one
abbrev pub IsKeeping : ProblemView → Option (List ℕ) → View → View → Option ℕ → Option ℕ →
    Option (List ℕ) → Option (List ℕ) → Type 0
IsKeeping p None v w cost after best kept = (w ≡ v) × (after ≡ cost) × (kept ≡ best)
IsKeeping p (Some x) v w cost after best kept = Posted v (choice_cost p x) w
    × (w.worker.best ≡ lesser v.worker.best (Some (choice_cost p x)))
    × (after ≡ lesser cost (Some (choice_cost p x)))
    × (kept ≡ lesser_choice cost (Some (choice_cost p x)) best (Some x))

-- the nodes of the tree are undone or of the list, those of the list are in the tree but for undone
-- ones, and as many count
pub record IsMadeOf (tree nodes : List Node) : Type 0 where
  pub from_list : (node : Node) → Contains tree node → (node ≡ Undone) ⊎ Contains nodes node
  pub in_tree : (node : Node) → Contains nodes node → (node ≡ Undone) ⊎ Contains tree node
  pub count : node_count tree ≡ node_count nodes

-- their nodes, one tree after the other
abbrev pub all_nodes : List (List Node) → List Node
all_nodes [] = []
all_nodes (tree ∷ trees) = tree ++ all_nodes trees

-- The search so far: a best choice and its cost, and a tree on all alternatives that is driven for
-- the cost
pub record IsSoFar (s : Setting) (cost : Option ℕ) (best : Option (List ℕ))
    (tree : List Node) : Type 0 where
  pub found : IsBestFound s.problem cost best
  pub now : IsSeenBetween cost s.greedy cost
  pub driven : IsDrivenFrom s.problem s.vectors (root_of s) s.greedy cost tree

-- a node, with its parts undone
abbrev pub with_undone_parts : Node → List Node
with_undone_parts (Split unit cut seen) = Split unit cut seen ∷ Undone ∷ Undone ∷ []
with_undone_parts (Leaf vector scale seen) = Leaf vector scale seen ∷ []
with_undone_parts (Over resource) = Over resource ∷ []
with_undone_parts Undone = Undone ∷ []

-- what is known at the start: the cost of the greedy choice, and the best choice with its cost,
-- from the greedy one down
pub record IsStart (p : ProblemView) (start : Start) : Type 0 where
  pub greedy_is : IsGreedyCost p start.greedy
  pub found : IsBestFound p start.cost start.best
  pub now : IsSeenBetween start.cost start.greedy start.cost
