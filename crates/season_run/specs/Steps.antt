-- Steps of a run. Contracts of private functions alone cite them.
use Rattle.std.specs.Prelude.{◌≡◌, ◌⊎◌, ℕ, ◌+◌, ◌*◌, ◌<◌, ◌≤◌, min, Bool, true, false, List, [], ◌∷◌, ◌++◌, length, All, Contains, Option, Some, None, IsSomeAnd}
use Rattle.std.specs.List.{AllZip, AllByRecursion}
use Rattle.std.specs.Option.{option_map}
use Rattle.choice_problem.specs.declared.vectors.Price.{Price}
use Rattle.choice_problem.specs.declared.nodes.Node.{Node}
use Rattle.choice_problem.specs.declared.nodes.Node.TheVariants.{Split, Leaf, Over, Undone}
use Rattle.choice_problem.specs.Problems.{ProblemView}
use Rattle.choice_problem.specs.Choices.{choice_cost}
use Rattle.choice_problem.specs.Driven.{IsDriven}
use Rattle.choice_problem.specs.Trees.{LeafHolds, node_count, vector_at}
use Rattle.choice_problem.specs.Roots.{IsRootVector}
use Rattle.search_workers.specs.Outcomes.{IsSettled, choice_count}
use Rattle.search_workers.specs.declared.outcomes.Outcome.{Outcome}
use Rattle.search_workers.specs.declared.outcomes.Outcome.TheVariants as ends
use Rattle.cert_format.specs.declared.cert.Floor.{Floor}
use Rattle.cert_format.specs.declared.cert.Mark.{Mark}
use Rattle.cert_format.specs.declared.cert.Mark.TheVariants as marks
use Rattle.cert_format.specs.declared.cert.StageCert.{StageCert}
use Rattle.cert_format.specs.Spelling.{is_tried}
use Rattle.cert_format.specs.Printable.{IsPrintableStage, IsWithinLimits}
use Rattle.season_days.specs.declared.declaration.Declaration.{Declaration}
use Rattle.series_model.specs.declared.state.UnitState.{UnitState}
use Rattle.series_model.specs.Allotments.{total_displacement}
use Rattle.series_model.specs.Stages.{states_after, after_stage, may_follow, stage_units, stage_times, AreStates, IsFeasibleChoice}
use Rattle.series_model.specs.Submissions.{SubmissionView}
use Rattle.wasg_stages.specs.Valid.{AreStages}
use Rattle.season_run.specs.declared.floors.Stated.{Stated}
use Rattle.season_run.specs.declared.trials.StageEnd.{StageEnd}
use Rattle.season_run.specs.declared.ties.LastStages.{LastStages}
use Rattle.season_run.specs.Ends.{IsGreatestFloor, IsLeastOf, IsStageEnd, floor_cost, floor_costs}
use Rattle.season_run.specs.Runs.{IsTriedRun, AreStageRuns}
use Rattle.season_run.specs.Searches.{IsEndOfSearches}

-- ---- floors

-- the ranges, where the node there is undone
abbrev pub undone_at : List (ℕ × ℕ) → Node → List (List (ℕ × ℕ))
undone_at ranges (Split unit cut seen) = []
undone_at ranges (Leaf vector scale seen) = []
undone_at ranges (Over resource) = []
undone_at ranges Undone = ranges ∷ []

-- the greatest floor of ranges, whose vector closes them for what it gives
pub record IsFoundFloor (p : ProblemView) (vectors : List (List Price)) (ranges : List (ℕ × ℕ))
    (floor : Floor) : Type 0 where
  pub greatest : IsGreatestFloor p vectors ranges floor
  pub closes : LeafHolds p vectors (Some (floor_cost p vectors ranges floor)) ranges
      floor.vector floor.scale

-- the least of a cost and of numbers, none where there is neither
abbrev pub IsLeastSoFar : Option ℕ → List ℕ → Option ℕ → Type 0
IsLeastSoFar cost numbers None = (cost ≡ None) × (numbers ≡ [])
IsLeastSoFar cost numbers (Some least) = IsLeastOf cost numbers least

-- a number more
abbrev pub least_with : Option ℕ → ℕ → ℕ
least_with None n = n
least_with (Some least) n = min least n

-- the floors of these ranges, and the least of a cost and of what they give
pub record AreFound (p : ProblemView) (vectors : List (List Price)) (cost : Option ℕ)
    (pieces : List (List (ℕ × ℕ))) (stated : Stated) : Type 0 where
  pub floors : AllZip (IsFoundFloor p vectors) pieces stated.floors.items
  pub least : IsLeastSoFar cost (floor_costs p vectors pieces stated.floors.items) stated.bound

-- ---- names

-- the greatest number of a vector that a floor names
pub record IsGreatestAtFloors (floors : List Floor) (number : ℕ) : Type 0 where
  pub most : All (λ (f : Floor). f.vector ≤ number) floors
  pub named : (number ≡ 0) ⊎ ((floor : Floor) × Contains floors floor × (floor.vector ≡ number))

-- ---- marks

-- a mark of a whole tree, by whether there is a choice
abbrev pub MarksClosed : Mark → Option (List ℕ) → Type 0
MarksClosed marks.Optimal (Some x) = Unit {0}
MarksClosed marks.Infeasible None = Unit {0}
MarksClosed marks.Optimal None = ⊥
MarksClosed marks.Infeasible (Some x) = ⊥
MarksClosed marks.Unsettled choice = ⊥
MarksClosed marks.NotTried choice = ⊥

-- ---- ends of searches

-- a search that ended takes at most the budget's nodes, and exactly so many where nodes are undone
abbrev pub TakesNodes : ℕ → Outcome → Type 0
TakesNodes budget (ends.Optimal choice cost tree vectors) = node_count tree ≤ budget
TakesNodes budget (ends.Infeasible tree vectors) = node_count tree ≤ budget
TakesNodes budget (ends.Spent best tree vectors) = node_count tree ≡ budget

-- the tree is driven, whatever was found, and the root vector is the first of the vectors, if any
abbrev pub IsDrivenBy : ProblemView → List (List Price) → Option ℕ → List Node → Type 0
IsDrivenBy p vectors cost tree = IsDriven p vectors cost tree
    × (0 < length vectors → IsRootVector p (vector_at vectors 1))

abbrev pub IsDrivenEnd : ProblemView → Outcome → Type 0
IsDrivenEnd p (ends.Optimal choice cost tree vectors) = IsDrivenBy p vectors (Some cost) tree
IsDrivenEnd p (ends.Infeasible tree vectors) = IsDrivenBy p vectors None tree
IsDrivenEnd p (ends.Spent best tree vectors) =
    IsDrivenBy p vectors (option_map (choice_cost p) best) tree

-- what the trial of a stage gives: an end of a search within the budget, that of a driven tree
-- where the budget is small, and a whole tree where the budget is enough for the problem's choices
pub record IsTrialEnd (p : ProblemView) (budget : ℕ) (end : StageEnd) : Type 0 where
  pub ended : IsStageEnd p end
  pub nodes : TakesNodes budget end.outcome
  pub small : budget ≤ 64 → IsDrivenEnd p end.outcome × (end.fixing ≡ None)
  pub searches : IsEndOfSearches p budget end
  pub settled : 2 * choice_count p ≤ budget + 1 → IsSettled end.outcome

-- ---- stages of a certificate

-- a stage that a season may print, in a certificate of version 3, and without a fixing in one of
-- version 2
pub record FitsSeason (c : StageCert) : Type 0 where
  pub printable : IsPrintableStage 3 c
  pub limits : IsWithinLimits c

-- the stages so far, each after the choices of those before it: what is still to come completes
-- them
pub record AreRunSoFar (s : SubmissionView) (budget stage : ℕ) (states : List UnitState)
    (follows : Bool) (certs : List StageCert) : Type 0 where
  pub earlier : List (Option (List ℕ))
  pub stage_is : stage ≡ length earlier + 1
  pub states_are : states ≡ states_after s.declaration s.units earlier
  pub follows_is : follows ≡ may_follow earlier
  pub fit : AreStates s states
  pub count : length certs + 1 ≡ stage
  pub fit_certs : AllByRecursion FitsSeason certs
  pub valid : (rest : List StageCert) → AreStages s.declaration s.units earlier rest →
      AreStages s.declaration s.units [] (certs ++ rest)
  pub runs : (rest : List StageCert) → AreStageRuns s.declaration s.units budget earlier rest →
      AreStageRuns s.declaration s.units budget [] (certs ++ rest)

-- a stage of a run, by whether it may follow the earlier ones
abbrev pub IsNextStage : Declaration → ℕ → List UnitState → ℕ → StageCert → Bool → Type 0
IsNextStage d stage states budget c true = (is_tried c.mark ≡ true)
    × IsTriedRun d stage states budget c
IsNextStage d stage states budget c false = (is_tried c.mark ≡ false)

-- ---- stages 3 and 4

-- stage 4 after a choice of stage 3, if that has one
abbrev pub FollowsThird : Declaration → List UnitState → ℕ → Bool → Option (List ℕ) → StageCert →
    Type 0
FollowsThird d states budget follows choice c = (earlier : List (Option (List ℕ))) →
    length earlier ≡ 2 → follows ≡ may_follow earlier →
    IsNextStage d 4 (after_stage d 3 states choice) budget c (may_follow (earlier ++ choice ∷ []))

-- stages 3 and 4 of a run, the second after the choice of the first
pub record AreLastStages (d : Declaration) (states : List UnitState) (budget : ℕ) (follows : Bool)
    (last : LastStages) : Type 0 where
  pub third : IsNextStage d 3 states budget last.third follows
  pub third_fits : FitsSeason last.third
  pub fourth : FollowsThird d states budget follows last.third.choice last.fourth
  pub fourth_fits : FitsSeason last.fourth

-- another feasible choice of a stage, which displaces as much
pub record IsStageTie (d : Declaration) (stage : ℕ) (states : List UnitState)
    (x z : List ℕ) : Type 0 where
  pub feasible : IsFeasibleChoice d stage states z
  pub cost : total_displacement d (stage_units stage states) (stage_times d stage states z)
      ≡ total_displacement d (stage_units stage states) (stage_times d stage states x)

-- the same of an OPTIMAL stage of a certificate
pub record IsTieOf (d : Declaration) (stage : ℕ) (states : List UnitState) (c : StageCert)
    (z : List ℕ) : Type 0 where
  pub mark : c.mark ≡ marks.Optimal
  pub choice : List ℕ
  pub choice_is : c.choice ≡ Some choice
  pub tie : IsStageTie d stage states choice z

-- an OPTIMAL stage that costs less than another one
abbrev pub IsCheaperStage : StageCert → StageCert → Type 0
IsCheaperStage c other = (c.mark ≡ marks.Optimal)
    × IsSomeAnd c.cost (λ cost. IsSomeAnd other.cost (λ most. cost < most))
