-- What a stage of a waiting list proves.
use Rattle.std.proofs.Common.{ℕ, List, [], ◌∷◌}
use Rattle.std.specs.Prelude.{IfSome}
use Rattle.scr_reader.specs.declared.line.Line.{Line}
use Rattle.series_model.specs.Submissions.{SubmissionView}
use Rattle.cert_format.specs.declared.cert.StageCert.{StageCert}
use Rattle.cert_format.specs.declared.cert.Certificate.{Certificate}
use Rattle.holding_book.specs.declared.answer.Entry.{Entry}
use Rattle.holding_book.specs.Books.{SlotBook, BookFits}
use Rattle.holding_book.specs.Asks.{next}
use Rattle.holding_book.specs.Histories.{replay}
use Rattle.holding_book.specs.Starts.{start_book}
use Rattle.amend_run.specs.Amended.{FitsThroughout}
use Rattle.wait_list.specs.Claims.{named_times, FitsBesideBook, IsWaitingProof, WaitingMarkHolds}
use Rattle.desk_commands.specs.Amendments.{IsOneHistory}
use Rattle.desk_commands.specs.Reclearing.{IsAskedOf, last_book, left_waiting, StageIsProved}

-- ---- laws of waiting lists

abbrev pub WaitingMarks : Type 0
WaitingMarks = (b : SlotBook) (lines : List Line) (c : StageCert) → IsWaitingProof b lines c → WaitingMarkHolds b lines c

abbrev pub AllottedFit : Type 0
AllottedFit = (b : SlotBook) (lines : List Line) (c : StageCert) → BookFits b → IsWaitingProof b lines c → IfSome c.choice (λ numbers. FitsBesideBook b lines (named_times b lines numbers))

-- ---- what a stage proves

last_fits : (b : SlotBook) (history : List Entry) → FitsThroughout b history → BookFits (replay b history)
last_fits b [] fits = fits
last_fits b (entry ∷ later) fits = last_fits (next b entry.ask) later fits.1

pub stage_proved : WaitingMarks → AllottedFit → (s : SubmissionView) (c : Certificate) (asks : List ℕ) (history : List Entry) (stage : StageCert) → IsAskedOf s c asks history → IsOneHistory (start_book s c) history
    → IsWaitingProof (last_book s c history) (left_waiting s c history) stage → StageIsProved s c asks history stage
stage_proved waits fit s c asks history stage asked one proof = record {
  asked = asked;
  one = one;
  mark = waits (last_book s c history) (left_waiting s c history) stage proof;
  fits = fit (last_book s c history) (left_waiting s c history) stage (last_fits (start_book s c) history one.fits) proof;
}
