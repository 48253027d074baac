-- What is answered after the test.
use Rattle.std.proofs.Common.{ℕ, ◌≡◌, ◌≤◌, List, length, drop, Bool, Some, None}
use Rattle.std.specs.Prelude.{◌↔◌, All, IsTrue, IfOk, IfSome, sum_by, Option, Result, Ok, Err}
use Rattle.choice_problem.specs.declared.nodes.Node.{Node}
use Rattle.choice_problem.specs.declared.vectors.Price.{Price}
use Rattle.choice_problem.specs.Problems.{ProblemView}
use Rattle.choice_problem.specs.Choices.{choice_cost}
use Rattle.tested_trees.specs.declared.closed.Closed.{Closed}
use Rattle.choice_problem.specs.Bounds.{IsVector, whole_of}
use Rattle.choice_problem.specs.Trees.{IsSound, IsWhole, node_count}
use Rattle.cost_fixing.specs.declared.fixings.Fixing.{Fixing}
use Rattle.choice_problem.specs.Trees.{vector_at}
use Rattle.cost_fixing.specs.Fixings.{FixingHolds, left_problem, tree_problem}
use Rattle.std.proofs.lemmas.List.Elements.{All-weaker}
use Rattle.tested_trees.specs.Closed.{ClosesWhole, IsClosedAtMost}

-- a cost within that of the start
pub within-start : (p : ProblemView) (start : Option (List ℕ)) (cost : ℕ) (closed : Closed) → ((most : ℕ) → cost ≤ most → IsClosedAtMost most closed) →
    IfSome start (λ x. cost ≤ choice_cost p x) → IfSome start (λ x. IsClosedAtMost (choice_cost p x) closed)
within-start p None cost closed at within = tt
within-start p (Some x) cost closed at within = at (choice_cost p x) within

-- a tree that passed the test
pub closes-whole : {E : Type 0} (p : ProblemView) (budget : ℕ) (cost : Option ℕ) (fixing : Option Fixing) (tree : List Node) (vectors : List (List Price)) (result : Result Bool E) →
    node_count tree ≤ budget → length vectors ≤ 64 → sum_by (λ (prices : List Price). length prices) (drop 1 vectors) ≤ 1000000 →
    All (IsVector p) vectors → IfOk result (λ yes. IsTrue yes → IfSome fixing (FixingHolds p vectors cost)) →
    IfOk result (λ yes. IsTrue yes → IsSound (tree_problem p vectors fixing) vectors cost (whole_of (tree_problem p vectors fixing)) tree) →
    IfOk result (λ yes. IsTrue yes → IsWhole tree) →
    IfOk result (λ yes. IsTrue yes → ClosesWhole p budget cost fixing tree vectors)
closes-whole p budget cost fixing tree vectors (Ok passes) few listed prices each holds sound whole = λ y. record {
  fixed = holds y;
  sound = sound y;
  whole = whole y;
  few_nodes = few;
  each = each;
  few = listed;
  few_prices = prices;
}
closes-whole p budget cost fixing tree vectors (Err e) few listed prices each holds sound whole = tt

-- a vector of the whole problem is one of what is left
abbrev pub LeftVectors : Type 0
LeftVectors = (p : ProblemView) (prices vector : List Price) (scale cost : ℕ) → IsVector (left_problem p prices scale cost) vector ↔ IsVector p vector

pub left-vectors : LeftVectors → (p q : ProblemView) (vectors : List (List Price)) (f : Fixing) → q ≡ tree_problem p vectors (Some f) → All (IsVector p) vectors → All (IsVector q) vectors
left-vectors law p q vectors f is all = rw is (
    All-weaker (IsVector p) (IsVector (tree_problem p vectors (Some f))) (λ v h. (law p (vector_at vectors f.vector) v f.scale f.cost).1 h) vectors all)

-- a tree of what a fixing leaves
pub sound-left : {E : Type 0} (p q : ProblemView) (vectors : List (List Price)) (cost : Option ℕ) (fixing : Option Fixing) (f : Fixing) (tree : List Node) (result : Result Bool E) → fixing ≡ Some f →
    q ≡ tree_problem p vectors (Some f) → IfOk result (λ yes. IsTrue yes → IsSound q vectors cost (whole_of q) tree) →
    IfOk result (λ yes. IsTrue yes → IsSound (tree_problem p vectors fixing) vectors cost (whole_of (tree_problem p vectors fixing)) tree)
sound-left p q vectors cost fixing f tree result e is h = rw e (rw is at h)
