-- The verdict on a whole certificate of a submission: that it is valid, or its first failing line
-- with the first reason.
use Rattle.std.specs.Prelude.{◌≡◌, ◌⊎◌, ℕ, suc, ◌+◌, Bool, true, false, List, [], ◌∷◌, ◌++◌, length, Option}
use Rattle.season_days.specs.declared.declaration.Declaration.{Declaration}
use Rattle.choice_problem.specs.Problems.{ProblemView}
use Rattle.cert_format.specs.declared.cert.StageCert.{StageCert}
use Rattle.cert_format.specs.declared.cert.Certificate.{Certificate}
use Rattle.cert_format.specs.Spelling.{is_tried, stage_lines}
use Rattle.series_model.specs.declared.unit.Unit.{Unit as SlotUnit}
use Rattle.series_model.specs.declared.state.UnitState.{UnitState}
use Rattle.series_model.specs.Submissions.{SubmissionView}
use Rattle.series_model.specs.Stages.{states_after, may_follow}
use Rattle.wasg_stages.specs.StageProblems.{IsStageProblem}
use Rattle.wasg_stages.specs.Valid.{IsValid}
use Rattle.cert_checker.specs.declared.verdict.Reason.{Reason}
use Rattle.cert_checker.specs.declared.verdict.Reason.TheVariants as because
use Rattle.cert_checker.specs.declared.verdict.Verdict.{Verdict}
use Rattle.cert_checker.specs.declared.verdict.Verdict.TheVariants.{Yes, No}
use Rattle.cert_checker.specs.Tests.{Passes, proof_tests}
use Rattle.cert_checker.specs.Verdicts.{NoneFails, IsFirstFailing}

-- ---- one stage, with what its units were given before it

-- the line of the mark has this number and fails
abbrev pub FailsAtMark : ℕ → ℕ → Reason → Type 0
FailsAtMark number line reason = (line ≡ number) × (reason ≡ because.Mark)

-- some line below the mark is the first that fails, on a problem of the stage
abbrev pub FailsBelow : Declaration → ℕ → List UnitState → ℕ → StageCert → ℕ → Reason → Type 0
FailsBelow d stage states number c line reason =
    (p : ProblemView) × IsStageProblem d stage states p
    × IsFirstFailing (Passes p c) (suc number) (proof_tests p c) line reason

-- no line below the mark fails
abbrev pub PassesBelow : Declaration → ℕ → List UnitState → StageCert → Type 0
PassesBelow d stage states c =
    (p : ProblemView) × IsStageProblem d stage states p × NoneFails (Passes p c) (proof_tests p c)

-- by whether the stage was tried, and whether it may follow the earlier ones
abbrev pub StageFails : Declaration → ℕ → List UnitState → ℕ → StageCert → Bool → Bool → ℕ →
    Reason → Type 0
StageFails d stage states number c true true line reason =
    FailsBelow d stage states number c line reason
StageFails d stage states number c true false line reason = FailsAtMark number line reason
StageFails d stage states number c false true line reason = FailsAtMark number line reason
StageFails d stage states number c false false line reason = ⊥

abbrev pub StagePasses : Declaration → ℕ → List UnitState → StageCert → Bool → Bool → Type 0
StagePasses d stage states c true true = PassesBelow d stage states c
StagePasses d stage states c true false = ⊥
StagePasses d stage states c false true = ⊥
StagePasses d stage states c false false = Unit {0}

-- ---- all stages

-- the choices of the stages before one, that of stage 1 first
abbrev pub Choices : Type 0
Choices = List (Option (List ℕ))

-- the first failing line of the stages from this one on, the first of whose lines has this number
abbrev pub StagesFail : Declaration → List SlotUnit → Choices → ℕ → List StageCert → ℕ →
    Reason → Type 0
StagesFail d units earlier number [] line reason = ⊥
StagesFail d units earlier number (c ∷ certs) line reason =
    StageFails d (length earlier + 1) (states_after d units earlier) number c
    (is_tried c.mark) (may_follow earlier) line reason
    ⊎ (StagePasses d (length earlier + 1) (states_after d units earlier) c
    (is_tried c.mark) (may_follow earlier)
    × StagesFail d units (earlier ++ c.choice ∷ [])
    (number + length (stage_lines (length earlier + 1) c)) certs line reason)

-- the line of the version is the first, and is not tested
abbrev pub FailsAt : SubmissionView → Certificate → ℕ → Reason → Type 0
FailsAt s c line reason = StagesFail s.declaration s.units [] 2 c.stages line reason

-- Yes for a valid certificate, and else the first failing line
abbrev pub IsCheck : SubmissionView → Certificate → Verdict → Type 0
IsCheck s c Yes = IsValid s c
IsCheck s c (No line reason) = FailsAt s c line reason
