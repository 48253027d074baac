-- What a verdict on the waiting stage says.
use Rattle.std.proofs.Common.{◌≡◌, ℕ, refl, List}
use Rattle.scr_reader.specs.declared.line.Line.{Line}
use Rattle.choice_problem.specs.Problems.{ProblemView}
use Rattle.cert_format.specs.declared.cert.StageCert.{StageCert}
use Rattle.cert_format.specs.Proofs.{IsProof}
use Rattle.cert_checker.specs.declared.verdict.Reason.{Reason}
use Rattle.cert_checker.specs.declared.verdict.Verdict.{Verdict}
use Rattle.cert_checker.specs.declared.verdict.Verdict.TheVariants.{Yes, No}
use Rattle.cert_checker.specs.Verdicts.{IsStageVerdict}
use Rattle.holding_book.specs.Books.{SlotBook}
use Rattle.wait_list.specs.Waiting.{IsWaitingProblem}
use Rattle.wait_list.specs.Claims.{IsWaitingProof, WaitingFailsAt, IsWaitingCheck}

module _ (b : SlotBook) (lines : List Line) (c : StageCert) where
  pub checked : (p : ProblemView) (v : Verdict) → IsWaitingProblem b lines p → IsStageVerdict p c 2 v → (v ≡ Yes → IsProof p c) → IsWaitingCheck b lines c v
  checked p Yes is verdict proof = record { problem = p; problem_is = is; proof = proof refl }
  checked p (No line reason) is verdict proof = record { problem = p; problem_is = is; fails = verdict }

  pub yes-proof : (v : Verdict) → IsWaitingCheck b lines c v → v ≡ Yes → IsWaitingProof b lines c
  yes-proof Yes is e = is
  yes-proof (No line reason) is e = absurd cc

  pub proof-yes : (v : Verdict) → ((line : ℕ) (reason : Reason) → IsWaitingProof b lines c → WaitingFailsAt b lines c line reason → ⊥) → IsWaitingCheck b lines c v → IsWaitingProof b lines c → v ≡ Yes
  proof-yes Yes never is proof = refl
  proof-yes (No line reason) never is proof = absurd (never line reason proof is)
