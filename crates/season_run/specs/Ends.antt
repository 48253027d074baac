-- How the search of a stage may end, and the stage of a certificate that it makes.
use Rattle.std.specs.Prelude.{◌≡◌, ◌⊎◌, ℕ, ◌≤◌, List, [], ◌∷◌, ◌++◌, drop, length, All, Contains, Option, Some, None, IfSome, IsSomeAnd, IsNone}
use Rattle.std.specs.List.{AllZip}
use Rattle.std.specs.Option.{option_map}
use Rattle.choice_problem.specs.declared.vectors.Price.{Price}
use Rattle.choice_problem.specs.declared.nodes.Node.{Node}
use Rattle.choice_problem.specs.Problems.{ProblemView}
use Rattle.choice_problem.specs.Choices.{choice_cost}
use Rattle.choice_problem.specs.Bounds.{IsVector, whole_of}
use Rattle.choice_problem.specs.Trees.{IsSound, IsWhole}
use Rattle.choice_problem.specs.Grafts.{open_ranges}
use Rattle.choice_problem.specs.Floors.{IsAtMost}
use Rattle.choice_problem.specs.Named.{Names, NamesUpTo}
use Rattle.cost_fixing.specs.declared.fixings.Fixing.{Fixing}
use Rattle.cost_fixing.specs.Fixings.{FixingHolds, tree_problem}
use Rattle.dual_bound.specs.Stated.{floor_by, scale_at, IsStatedFloor}
use Rattle.search_workers.specs.Outcomes.{IsBestFound, IsSearched, price_count}
use Rattle.search_workers.specs.declared.outcomes.Outcome.{Outcome}
use Rattle.search_workers.specs.declared.outcomes.Outcome.TheVariants as ends
use Rattle.choice_problem.specs.declared.vectors.TheConstants.{MOST_VECTORS, MOST_PRICES}
use Rattle.cert_format.specs.declared.cert.Floor.{Floor}
use Rattle.cert_format.specs.declared.cert.Mark.{Mark}
use Rattle.cert_format.specs.declared.cert.Mark.TheVariants as marks
use Rattle.cert_format.specs.declared.cert.StageCert.{StageCert}
use Rattle.season_run.specs.declared.trials.StageEnd.{StageEnd}

-- ---- how a search may end

-- vectors that a stage may list: at most 64 of the problem, with at most 1,000,000 prices after the
-- first one
pub record AreStageVectors (p : ProblemView) (vectors : List (List Price)) : Type 0 where
  pub few : length vectors ≤ MOST_VECTORS
  pub each : All (IsVector p) vectors
  pub few_prices : price_count (drop 1 vectors) ≤ MOST_PRICES

-- A whole tree, sound for the cost of a feasible choice, or for none without one: it proves the
-- mark, by whatever search it was found. Where there is a fixing, it holds, and the tree is one of
-- the problem that it leaves
pub record IsClosedEnd (p : ProblemView) (vectors : List (List Price)) (fixing : Option Fixing)
    (cost : Option ℕ) (best : Option (List ℕ)) (tree : List Node) : Type 0 where
  pub found : IsBestFound p cost best
  pub listed : AreStageVectors p vectors
  pub fixed : IfSome fixing (FixingHolds p vectors cost)
  pub sound : IsSound (tree_problem p vectors fixing) vectors cost
      (whole_of (tree_problem p vectors fixing)) tree
  pub whole : IsWhole tree

-- a driven tree with an undone node, the root vector among its vectors
pub record IsOpenEnd (p : ProblemView) (vectors : List (List Price)) (cost : Option ℕ)
    (best : Option (List ℕ)) (tree : List Node) : Type 0 where
  pub searched : IsSearched p [] vectors cost best tree
  pub root : 1 ≤ length vectors
  pub undone : IsWhole tree → ⊥

-- a stage's search ends with a tree that proves its mark, or with a driven one; there is a fixing
-- at most where a best choice was found
abbrev pub IsStageEndBy : ProblemView → Option Fixing → Outcome → Type 0
IsStageEndBy p fixing (ends.Optimal choice cost tree vectors) =
    IsClosedEnd p vectors fixing (Some cost) (Some choice) tree
IsStageEndBy p fixing (ends.Infeasible tree vectors) =
    (fixing ≡ None) × IsClosedEnd p vectors None None None tree
IsStageEndBy p fixing (ends.Spent best tree vectors) =
    (fixing ≡ None) × IsOpenEnd p vectors (option_map (choice_cost p) best) best tree

abbrev pub IsStageEnd : ProblemView → StageEnd → Type 0
IsStageEnd p end = IsStageEndBy p end.fixing end.outcome

-- ---- the floors and the bound of an OPEN stage

-- the ranges of a tree's undone nodes, in preorder
abbrev pub undone_ranges : ProblemView → List Node → List (List (ℕ × ℕ))
undone_ranges p tree = open_ranges (whole_of p ∷ []) tree

-- what a named vector gives on ranges: vector 0 at scale 1, and the others at scale 1024
abbrev pub floor_cost : ProblemView → List (List Price) → List (ℕ × ℕ) → Floor → ℕ
floor_cost p vectors ranges floor = floor_by p ranges vectors floor.vector

-- the floor names the lowest of the vectors that give the most there
pub record IsGreatestFloor (p : ProblemView) (vectors : List (List Price)) (ranges : List (ℕ × ℕ))
    (floor : Floor) : Type 0 where
  pub most : IsStatedFloor p ranges vectors (floor_cost p vectors ranges floor) floor.vector
  pub scale : floor.scale ≡ scale_at floor.vector

-- what these floors give, each on its ranges
abbrev pub floor_costs : ProblemView → List (List Price) → List (List (ℕ × ℕ)) → List Floor → List ℕ
floor_costs p vectors [] floors = []
floor_costs p vectors (ranges ∷ pieces) [] = []
floor_costs p vectors (ranges ∷ pieces) (floor ∷ floors) =
    floor_cost p vectors ranges floor ∷ floor_costs p vectors pieces floors

-- the least of a cost, if there is one, and of these numbers
pub record IsLeastOf (cost : Option ℕ) (numbers : List ℕ) (least : ℕ) : Type 0 where
  pub within : IsAtMost least cost
  pub below : All (λ n. least ≤ n) numbers
  pub reached : (cost ≡ Some least) ⊎ Contains numbers least

-- each undone node has the greatest floor that these vectors give on its ranges, and the bound is
-- the least of the cost and of the floors
pub record AreStated (p : ProblemView) (vectors : List (List Price)) (cost : Option ℕ)
    (tree : List Node) (floors : List Floor) (bound : Option ℕ) : Type 0 where
  pub greatest : AllZip (IsGreatestFloor p vectors) (undone_ranges p tree) floors
  pub least : IsSomeAnd bound
      (IsLeastOf cost (floor_costs p vectors (undone_ranges p tree) floors))

-- ---- which vectors a stage keeps

-- some leaf, floor or fixing names the vector of this number
abbrev pub IsNamed : Option Fixing → List Node → List Floor → ℕ → Type 0
IsNamed fixing tree floors number = ((leaf : Node) × Contains tree leaf × Names number leaf)
    ⊎ (((floor : Floor) × Contains floors floor × (floor.vector ≡ number))
    ⊎ IsSomeAnd fixing (λ f. f.vector ≡ number))

-- the greatest number of a vector that a leaf, a floor or the fixing names; 0 where none does
pub record IsGreatestName (fixing : Option Fixing) (tree : List Node) (floors : List Floor)
    (number : ℕ) : Type 0 where
  pub leaves : All (NamesUpTo number) tree
  pub at_floors : All (λ (f : Floor). f.vector ≤ number) floors
  pub at_fixing : IfSome fixing (λ f. f.vector ≤ number)
  pub named : (number ≡ 0) ⊎ IsNamed fixing tree floors number

-- the vectors of a search up to the last one that is named
pub record AreKeptOf (searched : List (List Price)) (fixing : Option Fixing) (tree : List Node)
    (floors : List Floor) (vectors : List (List Price)) : Type 0 where
  pub behind : List (List Price)
  pub first : searched ≡ vectors ++ behind
  pub last : IsGreatestName fixing tree floors (length vectors)

-- ---- the stage that an end makes

-- a stage of these parts, with its vectors up to the last one that is named
pub record IsStageOf (mark : Mark) (choice : Option (List ℕ)) (cost : Option ℕ)
    (fixing : Option Fixing) (tree : List Node) (vectors : List (List Price))
    (c : StageCert) : Type 0 where
  pub mark_is : c.mark ≡ mark
  pub choice_is : c.choice ≡ choice
  pub cost_is : c.cost ≡ cost
  pub fixing_is : c.fixing ≡ fixing
  pub tree_is : c.tree ≡ tree
  pub kept : AreKeptOf vectors fixing tree c.floors c.vectors

-- no bound and no floors
pub record StatesNothing (c : StageCert) : Type 0 where
  pub no_bound : IsNone c.bound
  pub no_floors : c.floors ≡ []

abbrev pub MakesStageBy : ProblemView → Option Fixing → Outcome → StageCert → Type 0
MakesStageBy p fixing (ends.Optimal choice cost tree vectors) c =
    IsStageOf marks.Optimal (Some choice) (Some cost) fixing tree vectors c × StatesNothing c
MakesStageBy p fixing (ends.Infeasible tree vectors) c =
    IsStageOf marks.Infeasible None None fixing tree vectors c × StatesNothing c
MakesStageBy p fixing (ends.Spent best tree vectors) c =
    IsStageOf marks.Unsettled best (option_map (choice_cost p) best) fixing tree vectors c
    × AreStated p vectors c.cost tree c.floors c.bound

abbrev pub MakesStage : ProblemView → StageEnd → StageCert → Type 0
MakesStage p end c = MakesStageBy p end.fixing end.outcome c
