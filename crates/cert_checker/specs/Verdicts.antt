-- The verdict on the lines of a stage: that no line fails, or the first that does, with its reason.
use Rattle.std.specs.Prelude.{◌≡◌, ◌⊎◌, ℕ, suc, List, [], ◌∷◌}
use Rattle.std.specs.List.{AllByRecursion}
use Rattle.choice_problem.specs.Problems.{ProblemView}
use Rattle.cert_format.specs.declared.cert.StageCert.{StageCert}
use Rattle.cert_checker.specs.declared.verdict.Reason.{Reason}
use Rattle.cert_checker.specs.declared.verdict.Verdict.{Verdict}
use Rattle.cert_checker.specs.declared.verdict.Verdict.TheVariants.{Yes, No}
use Rattle.cert_checker.specs.Tests.{Test, Passes, reason_of, proof_tests}

-- the first of a line's tests that fails
abbrev pub FailsFirst : (Test → Type 0) → List Test → Reason → Type 0
FailsFirst Holds [] reason = ⊥
FailsFirst Holds (test ∷ tests) reason =
    ((Holds test → ⊥) × (reason ≡ reason_of test)) ⊎ (Holds test × FailsFirst Holds tests reason)

-- no line fails
abbrev pub NoneFails : (Test → Type 0) → List (List Test) → Type 0
NoneFails Holds lines = AllByRecursion (AllByRecursion Holds) lines

-- the first line that fails, where the first of the lines has this number
abbrev pub IsFirstFailing : (Test → Type 0) → ℕ → List (List Test) → ℕ → Reason → Type 0
IsFirstFailing Holds number [] line reason = ⊥
IsFirstFailing Holds number (tests ∷ lines) line reason =
    ((line ≡ number) × FailsFirst Holds tests reason)
    ⊎ (AllByRecursion Holds tests × IsFirstFailing Holds (suc number) lines line reason)

-- the verdict on lines
abbrev pub IsVerdict : (Test → Type 0) → ℕ → List (List Test) → Verdict → Type 0
IsVerdict Holds number lines Yes = NoneFails Holds lines
IsVerdict Holds number lines (No line reason) = IsFirstFailing Holds number lines line reason

-- the verdict on a stage on its problem, where the line of the mark has this number
abbrev pub IsStageVerdict : ProblemView → StageCert → ℕ → Verdict → Type 0
IsStageVerdict p c number verdict = IsVerdict (Passes p c) (suc number) (proof_tests p c) verdict
