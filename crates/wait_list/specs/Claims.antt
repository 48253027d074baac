-- What a stage of a waiting list proves of the slots that a book leaves, and what a check of it
-- says.
use Rattle.std.specs.Prelude.{ℕ, List, ◌++◌}
use Rattle.season_days.specs.Capacity.{capacity_of}
use Rattle.scr_reader.specs.declared.line.Line.{Line}
use Rattle.capacity_windows.specs.Windows.{WindowsFit}
use Rattle.choice_problem.specs.Problems.{ProblemView}
use Rattle.series_model.specs.declared.times.Times.{Times}
use Rattle.series_model.specs.Allotments.{IsFeasibleAllotment, allotted_movements}
use Rattle.series_model.specs.Stages.{times_named}
use Rattle.cert_format.specs.declared.cert.StageCert.{StageCert}
use Rattle.cert_format.specs.Proofs.{IsProof}
use Rattle.wasg_stages.specs.Valid.{MarkClaims}
use Rattle.cert_checker.specs.declared.verdict.Reason.{Reason}
use Rattle.cert_checker.specs.declared.verdict.Verdict.{Verdict}
use Rattle.cert_checker.specs.declared.verdict.Verdict.TheVariants.{Yes, No}
use Rattle.cert_checker.specs.Tests.{Passes, proof_tests}
use Rattle.cert_checker.specs.Verdicts.{IsFirstFailing}
use Rattle.holding_book.specs.Books.{SlotBook, season_of, book_movements}
use Rattle.holding_book.specs.Left.{left_of}
use Rattle.wait_list.specs.Waiting.{waiting_units, waiting_terms, IsWaitingProblem}

-- ---- allotments

-- one alternative for each waiting line, and no resource holds more of their movements than the
-- book leaves
abbrev pub IsWaitingAllotment : SlotBook → List Line → List Times → Type 0
IsWaitingAllotment b lines times =
    IsFeasibleAllotment (waiting_terms b.declaration) (waiting_units lines) (left_of b) times

-- the times that the numbers of a choice name
abbrev pub named_times : SlotBook → List Line → List ℕ → List Times
named_times b lines numbers =
    times_named (waiting_terms b.declaration) (waiting_units lines) numbers

-- the movements of all holdings and of the waiting lines at these times fit the declared limits
abbrev pub FitsBesideBook : SlotBook → List Line → List Times → Type 0
FitsBesideBook b lines times =
    WindowsFit (capacity_of b.declaration)
    (book_movements b ++ allotted_movements (season_of b) (waiting_units lines) times)

-- ---- proofs

-- a proof of the waiting stage
pub record IsWaitingProof (b : SlotBook) (lines : List Line) (c : StageCert) : Type 0 where
  pub problem : ProblemView
  pub problem_is : IsWaitingProblem b lines problem
  pub proof : IsProof problem c

-- what its mark claims: OPTIMAL has a feasible allotment of this cost, and none displaces less;
-- OPEN may have one, and none displaces less than the bound
abbrev pub WaitingMarkHolds : SlotBook → List Line → StageCert → Type 0
WaitingMarkHolds b lines c =
    MarkClaims (waiting_terms b.declaration) (waiting_units lines) (left_of b) c c.mark

-- ---- checks: the line of the mark is the second one

-- some line of the stage is the first that fails, with its first reason
pub record WaitingFailsAt (b : SlotBook) (lines : List Line) (c : StageCert) (line : ℕ)
    (reason : Reason) : Type 0 where
  pub problem : ProblemView
  pub problem_is : IsWaitingProblem b lines problem
  pub fails : IsFirstFailing (Passes problem c) 3 (proof_tests problem c) line reason

abbrev pub IsWaitingCheck : SlotBook → List Line → StageCert → Verdict → Type 0
IsWaitingCheck b lines c Yes = IsWaitingProof b lines c
IsWaitingCheck b lines c (No line reason) = WaitingFailsAt b lines c line reason
