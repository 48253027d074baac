-- The certificate of a run of a season: what is promised of each stage beside that the certificate
-- is valid.
use Rattle.std.specs.Prelude.{◌≡◌, ℕ, ◌+◌, ◌*◌, ◌<◌, ◌≤◌, Bool, true, false, List, [], ◌∷◌, ◌++◌, length, map, All, Option, None}
use Rattle.std.specs.List.{AllByRecursion}
use Rattle.std.specs.Option.{option_map_or}
use Rattle.season_days.specs.declared.declaration.Declaration.{Declaration}
use Rattle.choice_problem.specs.declared.vectors.Price.{Price}
use Rattle.choice_problem.specs.Problems.{ProblemView}
use Rattle.choice_problem.specs.Trees.{IsWhole, node_count, vector_at}
use Rattle.choice_problem.specs.Driven.{IsDriven}
use Rattle.choice_problem.specs.Roots.{IsRootVector}
use Rattle.search_workers.specs.Outcomes.{AreListed, product_of}
use Rattle.season_run.specs.declared.trials.StageEnd.{StageEnd}
use Rattle.cert_format.specs.declared.cert.Mark.{Mark}
use Rattle.cert_format.specs.declared.cert.Mark.TheVariants.{Optimal, Infeasible, Unsettled, NotTried}
use Rattle.cert_format.specs.declared.cert.StageCert.{StageCert}
use Rattle.cert_format.specs.declared.cert.Certificate.{Certificate}
use Rattle.cert_format.specs.Printable.{IsWithinLimits}
use Rattle.cert_format.specs.Proofs.{IsProof}
use Rattle.cert_format.specs.Spelling.{is_tried}
use Rattle.series_model.specs.declared.unit.Unit.{Unit as SlotUnit}
use Rattle.series_model.specs.declared.state.UnitState.{UnitState}
use Rattle.series_model.specs.Options.{options_of}
use Rattle.series_model.specs.Stages.{stage_units, states_after}
use Rattle.series_model.specs.Submissions.{SubmissionView}
use Rattle.wasg_stages.specs.StageProblems.{IsStageProblem}
use Rattle.wasg_stages.specs.Valid.{IsValid}
use Rattle.season_run.specs.Ends.{AreStageVectors, AreStated, IsGreatestName, AreKeptOf, MakesStage}
use Rattle.season_run.specs.Searches.{IsEndOfSearches, listed_vectors}

-- ---- a stage on its problem

-- An OPEN stage has a driven tree, with exactly as many nodes as the budget and with undone nodes.
-- Its vectors are those of its search, the root vector first, up to the last one that it names; its
-- floors are the greatest that all vectors of the search give, and its bound is the least of them
-- and of its cost.
pub record IsOpenStage (p : ProblemView) (budget : ℕ) (searched : List (List Price))
    (c : StageCert) : Type 0 where
  pub spent : node_count c.tree ≡ budget
  pub undone : IsWhole c.tree → ⊥
  pub driven : IsDriven p c.vectors c.cost c.tree
  pub listed : AreListed p [] searched
  pub root : 1 ≤ length searched
  pub unfixed : c.fixing ≡ None
  pub kept : AreKeptOf searched None c.tree c.floors c.vectors
  pub stated : AreStated p searched c.cost c.tree c.floors c.bound

abbrev pub OpensAs : ProblemView → ℕ → List (List Price) → StageCert → Mark → Type 0
OpensAs p budget searched c Optimal = Unit {0}
OpensAs p budget searched c Infeasible = Unit {0}
OpensAs p budget searched c Unsettled = IsOpenStage p budget searched c
OpensAs p budget searched c NotTried = ⊥

-- with a small budget the tree is driven, whatever the mark is, and one of the whole problem; and
-- the first vector, if there is one, is the root vector
pub record IsSmallRun (p : ProblemView) (c : StageCert) : Type 0 where
  pub unfixed : c.fixing ≡ None
  pub driven : IsDriven p c.vectors c.cost c.tree
  pub root : 0 < length c.vectors → IsRootVector p (vector_at c.vectors 1)

-- The stage is made of the end of the problem's searches, each of which goes on from the best
-- choice that the searches before it found. Its tree has at most the budget's nodes, and no vector
-- is listed behind the last one that is named.
pub record IsStageRun (p : ProblemView) (budget : ℕ) (c : StageCert) : Type 0 where
  pub proof : IsProof p c
  pub nodes : node_count c.tree ≤ budget
  pub listed : AreStageVectors p c.vectors
  pub named : IsGreatestName c.fixing c.tree c.floors (length c.vectors)
  pub small : budget ≤ 64 → IsSmallRun p c
  pub end : StageEnd
  pub searches : IsEndOfSearches p budget end
  pub made : MakesStage p end c
  pub opened : OpensAs p budget (listed_vectors end.outcome) c c.mark

-- ---- a budget that is enough

-- how many choices the units have, each one of its alternatives
abbrev pub allotment_count : Declaration → List SlotUnit → ℕ
allotment_count d units = product_of (map (λ unit. length (options_of d unit)) units)

-- at least 2 * n - 1, where the units have n choices
abbrev pub IsEnough : Declaration → List SlotUnit → ℕ → Type 0
IsEnough d units budget = 2 * allotment_count d units ≤ budget + 1

-- ---- all stages

-- a stage that was tried, with what its units were given before it
pub record IsTriedRun (d : Declaration) (stage : ℕ) (states : List UnitState) (budget : ℕ)
    (c : StageCert) : Type 0 where
  pub problem : ProblemView
  pub problem_is : IsStageProblem d stage states problem
  pub run : IsStageRun problem budget c
  pub settled : IsEnough d (stage_units stage states) budget → c.mark ≡ Unsettled → ⊥

abbrev pub IsRunAs : Declaration → ℕ → List UnitState → ℕ → StageCert → Bool → Type 0
IsRunAs d stage states budget c true = IsTriedRun d stage states budget c
IsRunAs d stage states budget c false = Unit {0}

-- the stages, each after the choices of those before it, that of stage 1 first
abbrev pub AreStageRuns : Declaration → List SlotUnit → ℕ → List (Option (List ℕ)) →
    List StageCert → Type 0
AreStageRuns d units budget earlier [] = Unit {0}
AreStageRuns d units budget earlier (c ∷ certs) =
    IsRunAs d (length earlier + 1) (states_after d units earlier) budget c (is_tried c.mark)
    × AreStageRuns d units budget (earlier ++ c.choice ∷ []) certs

-- version 3 where some stage has a fixing, else version 2
abbrev pub version_for : List StageCert → ℕ
version_for [] = 2
version_for (c ∷ certs) = option_map_or (λ f. 3) c.fixing (version_for certs)

-- The certificate of a run: of version 2, or 3 where some stage has a fixing, and valid, so that
-- exactly the stages behind a stage 1 or 2 without an allotment are NOT TRIED, and each other
-- stage has a proof; each stage that was tried ended within the budget; and each stage is within
-- the limits of a season's stages.
pub record IsRun (s : SubmissionView) (budget : ℕ) (c : Certificate) : Type 0 where
  pub version : c.version ≡ version_for c.stages
  pub valid : IsValid s c
  pub stages : AreStageRuns s.declaration s.units budget [] c.stages
  pub limits : AllByRecursion IsWithinLimits c.stages

-- ---- a budget that is enough for all stages

-- for the units of each stage, after the choices of those before it
abbrev pub AreEnough : Declaration → List SlotUnit → ℕ → List (Option (List ℕ)) →
    List StageCert → Type 0
AreEnough d units budget earlier [] = Unit {0}
AreEnough d units budget earlier (c ∷ certs) =
    IsEnough d (stage_units (length earlier + 1) (states_after d units earlier)) budget
    × AreEnough d units budget (earlier ++ c.choice ∷ []) certs

abbrev pub IsEnoughFor : SubmissionView → ℕ → Certificate → Type 0
IsEnoughFor s budget c = AreEnough s.declaration s.units budget [] c.stages

-- no stage is OPEN
abbrev pub IsSettledCert : Certificate → Type 0
IsSettledCert c = All (λ (b : StageCert). b.mark ≡ Unsettled → ⊥) c.stages
