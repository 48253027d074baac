-- What is answered of a problem that was closed.
use Rattle.std.specs.Prelude.{◌≡◌, ℕ, ◌≤◌, List, drop, length, sum_by, All, Option, Some, None, IfSome}
use Rattle.choice_problem.specs.declared.vectors.Price.{Price}
use Rattle.choice_problem.specs.declared.nodes.Node.{Node}
use Rattle.choice_problem.specs.Problems.{ProblemView}
use Rattle.choice_problem.specs.Choices.{IsFeasible, IsBest, HasNone, choice_cost}
use Rattle.choice_problem.specs.Bounds.{IsVector, whole_of}
use Rattle.choice_problem.specs.Trees.{IsSound, IsWhole, node_count}
use Rattle.cost_fixing.specs.declared.fixings.Fixing.{Fixing}
use Rattle.cost_fixing.specs.Fixings.{FixingHolds, tree_problem}
use Rattle.tested_trees.specs.declared.closed.Closed.{Closed}
use Rattle.tested_trees.specs.declared.closed.Closed.TheVariants.{Optimal, Infeasible}

-- A whole tree of at most so many nodes that is sound for the cost, or for none, with at most 64
-- vectors of the problem, of which all but the first have together at most 1,000,000 prices. Where
-- there is a fixing, it holds, and the tree is one of the problem that it leaves
pub record ClosesWhole (p : ProblemView) (budget : ℕ) (cost : Option ℕ) (fixing : Option Fixing)
    (tree : List Node) (vectors : List (List Price)) : Type 0 where
  pub fixed : IfSome fixing (FixingHolds p vectors cost)
  pub sound : IsSound (tree_problem p vectors fixing) vectors cost
      (whole_of (tree_problem p vectors fixing)) tree
  pub whole : IsWhole tree
  pub few_nodes : node_count tree ≤ budget
  pub each : All (IsVector p) vectors
  pub few : length vectors ≤ 64
  pub few_prices : sum_by (λ (prices : List Price). length prices) (drop 1 vectors) ≤ 1000000

-- a choice that is best, with its cost and what proves it, or what proves that there is none
abbrev pub IsClosed : ProblemView → ℕ → Closed → Type 0
IsClosed p budget (Optimal choice cost fixing tree vectors) =
    ClosesWhole p budget (Some cost) fixing tree vectors × IsFeasible p choice
    × (choice_cost p choice ≡ cost) × IsBest p choice
IsClosed p budget (Infeasible tree vectors) =
    ClosesWhole p budget None None tree vectors × HasNone p

-- there is a best choice, and it costs at most this
abbrev pub IsClosedAtMost : ℕ → Closed → Type 0
IsClosedAtMost most (Optimal choice cost fixing tree vectors) = cost ≤ most
IsClosedAtMost most (Infeasible tree vectors) = ⊥

-- a choice is known that costs at most this
abbrev pub IsKnownAtMost : ProblemView → ℕ → Option (List ℕ) → Type 0
IsKnownAtMost p most None = ⊥
IsKnownAtMost p most (Some x) = choice_cost p x ≤ most
