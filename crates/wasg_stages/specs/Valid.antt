-- Valid certificates: what each stage of one proves, given the choices of the stages before it in
-- the same certificate; and what its marks claim of the season's allotments.
use Rattle.std.specs.Prelude.{◌≡◌, ℕ, ◌+◌, Bool, true, false, List, [], ◌∷◌, ◌++◌, length, Option, option_map}
use Rattle.season_days.specs.declared.declaration.Declaration.{Declaration}
use Rattle.choice_problem.specs.Problems.{ProblemView}
use Rattle.cert_format.specs.declared.cert.Mark.{Mark}
use Rattle.cert_format.specs.declared.cert.Mark.TheVariants.{Optimal, Infeasible, Unsettled, NotTried}
use Rattle.cert_format.specs.declared.cert.StageCert.{StageCert}
use Rattle.cert_format.specs.declared.cert.Certificate.{Certificate}
use Rattle.cert_format.specs.Spelling.{is_tried}
use Rattle.cert_format.specs.Printable.{IsPrintable}
use Rattle.cert_format.specs.Proofs.{IsProof}
use Rattle.series_model.specs.declared.unit.Unit.{Unit as SlotUnit}
use Rattle.series_model.specs.declared.state.UnitState.{UnitState}
use Rattle.series_model.specs.Submissions.{SubmissionView}
use Rattle.series_model.specs.Stages.{stage_units, stage_limit, times_named, states_after, may_follow}
use Rattle.series_model.specs.Marks.{ClaimsOptimal, ClaimsInfeasible, ClaimsOpen}
use Rattle.wasg_stages.specs.StageProblems.{IsStageProblem}

-- ---- the stages of a certificate, each with the choices of those before it, that of stage 1 first

-- a stage that was tried has a proof on its problem
pub record IsTried (d : Declaration) (stage : ℕ) (states : List UnitState)
    (c : StageCert) : Type 0 where
  pub problem : ProblemView
  pub problem_is : IsStageProblem d stage states problem
  pub proof : IsProof problem c

-- a stage is tried exactly where it may follow the earlier ones
abbrev pub IsStageAs : Declaration → List SlotUnit → List (Option (List ℕ)) → StageCert → Bool →
    Type 0
IsStageAs d units earlier c true =
    (may_follow earlier ≡ true) × IsTried d (length earlier + 1) (states_after d units earlier) c
IsStageAs d units earlier c false = may_follow earlier ≡ false

abbrev pub AreStages : Declaration → List SlotUnit → List (Option (List ℕ)) → List StageCert →
    Type 0
AreStages d units earlier [] = Unit {0}
AreStages d units earlier (c ∷ certs) =
    IsStageAs d units earlier c (is_tried c.mark)
    × AreStages d units (earlier ++ c.choice ∷ []) certs

-- a valid certificate of a submission: it has its form (one of the three versions, four stages,
-- from version 2 on a bound for each OPEN stage and a floor for each undone node, and fixings in
-- version 3 alone), and each of its stages is tried exactly where it may be, and then has a proof
pub record IsValid (s : SubmissionView) (c : Certificate) : Type 0 where
  pub form : IsPrintable c
  pub stages : AreStages s.declaration s.units [] c.stages

-- ---- what the marks claim, each given the allotments of the stages before it

-- of some units under a limit for each resource
abbrev pub MarkClaims : Declaration → List SlotUnit → (ℕ → ℕ) → StageCert → Mark → Type 0
MarkClaims d units limit c Optimal =
    ClaimsOptimal d units limit (option_map (times_named d units) c.choice) c.cost
MarkClaims d units limit c Infeasible = ClaimsInfeasible d units limit
MarkClaims d units limit c Unsettled =
    ClaimsOpen d units limit (option_map (times_named d units) c.choice) c.cost c.bound
MarkClaims d units limit c NotTried = Unit {0}

abbrev pub StageClaims : Declaration → ℕ → List UnitState → StageCert → Type 0
StageClaims d stage states c =
    MarkClaims d (stage_units stage states) (stage_limit d stage states) c c.mark

abbrev pub AreClaims : Declaration → List SlotUnit → List (Option (List ℕ)) → List StageCert →
    Type 0
AreClaims d units earlier [] = Unit {0}
AreClaims d units earlier (c ∷ certs) =
    StageClaims d (length earlier + 1) (states_after d units earlier) c
    × AreClaims d units (earlier ++ c.choice ∷ []) certs

-- each OPTIMAL stage has a least allotment, each INFEASIBLE stage none, and each OPEN stage none
-- below its bound
abbrev pub MarksHold : SubmissionView → Certificate → Type 0
MarksHold s c = AreClaims s.declaration s.units [] c.stages
