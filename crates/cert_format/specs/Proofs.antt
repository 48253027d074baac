-- What a proof of one stage is, given the stage's problem, and what it shows.
use Rattle.std.specs.Prelude.{◌≡◌, ℕ, ◌≤◌, List, map, All, IfSome, IsSome, IsNone, IsSomeAnd, option_map}
use Rattle.choice_problem.specs.Problems.{ProblemView}
use Rattle.choice_problem.specs.Choices.{IsFeasible, IsBest, HasNone, choice_cost}
use Rattle.choice_problem.specs.Bounds.{IsVector, whole_of}
use Rattle.choice_problem.specs.Trees.{IsSound, IsWhole}
use Rattle.choice_problem.specs.Floors.{AreFloors, IsAtMost}
use Rattle.cost_fixing.specs.declared.fixings.Fixing.{Fixing}
use Rattle.cost_fixing.specs.Fixings.{FixingHolds, tree_problem}
use Rattle.cert_format.specs.declared.cert.Floor.{Floor}
use Rattle.cert_format.specs.declared.cert.Mark.{Mark}
use Rattle.cert_format.specs.declared.cert.Mark.TheVariants.{Optimal, Infeasible, Unsettled, NotTried}
use Rattle.cert_format.specs.declared.cert.StageCert.{StageCert}

abbrev pub floor_pairs : List Floor → List (ℕ × ℕ)
floor_pairs floors = map (λ (f : Floor). (f.vector, f.scale)) floors

-- a bound is at most the cost, if there is one, and the floor of each undone node closes the node's
-- ranges for it
pub record IsStatedBound (p : ProblemView) (c : StageCert) (bound : ℕ) : Type 0 where
  pub within : IsAtMost bound c.cost
  pub floors : AreFloors p c.vectors bound c.tree (floor_pairs c.floors)

-- OPTIMAL has a choice and a whole tree, INFEASIBLE no choice and a whole tree, OPEN a tree with an
-- undone node, and its bound where there is one
abbrev pub FitsMark : ProblemView → StageCert → Mark → Type 0
FitsMark p c Optimal = IsSome c.choice × IsWhole c.tree
FitsMark p c Infeasible = IsNone c.choice × IsWhole c.tree
FitsMark p c Unsettled = (IsWhole c.tree → ⊥) × IfSome c.bound (IsStatedBound p c)
FitsMark p c NotTried = ⊥

-- a fixing stands under OPTIMAL alone, and holds for the stage's cost
pub record IsStageFixing (p : ProblemView) (c : StageCert) (f : Fixing) : Type 0 where
  pub optimal : c.mark ≡ Optimal
  pub holds : FixingHolds p c.vectors c.cost f

-- the problem that the tree of a stage is a tree of: where there is a fixing, what it leaves
abbrev pub problem_of_tree : ProblemView → StageCert → ProblemView
problem_of_tree p c = tree_problem p c.vectors c.fixing

-- a stage that was tried has a proof: a feasible choice or none, its cost, vectors of the problem, a
-- fixing that holds or none, and a tree of what it leaves that is sound for that cost, or for none,
-- and that fits the mark
pub record IsProof (p : ProblemView) (c : StageCert) : Type 0 where
  pub feasible : IfSome c.choice (IsFeasible p)
  pub cost : c.cost ≡ option_map (choice_cost p) c.choice
  pub vectors : All (IsVector p) c.vectors
  pub fixing : IfSome c.fixing (IsStageFixing p c)
  pub sound : IsSound (problem_of_tree p c) c.vectors c.cost (whole_of (problem_of_tree p c)) c.tree
  pub marked : FitsMark p c c.mark

-- what is claimed: the choice is best; there is none; or none costs less than the bound
abbrev pub ClaimsOf : ProblemView → StageCert → Mark → Type 0
ClaimsOf p c Optimal = IsSomeAnd c.choice (IsBest p)
ClaimsOf p c Infeasible = HasNone p
ClaimsOf p c Unsettled =
    IfSome c.bound (λ bound. (x : List ℕ) → IsFeasible p x → bound ≤ choice_cost p x)
ClaimsOf p c NotTried = Unit {0}
