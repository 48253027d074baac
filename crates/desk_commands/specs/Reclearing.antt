-- The waiting list of a desk: what asks leave unmet beside the book that they left, and one more
-- stage for it.
use Rattle.std.specs.Prelude.{◌≡◌, ◌≢◌, ℕ, ◌+◌, ◌*◌, ◌≤◌, List, [], ◌∷◌, ◌++◌, length, codes}
use Rattle.std.specs.Prelude.{Option, Some, None, IfSome}
use Rattle.std.specs.List.{flat_map}
use Rattle.std.specs.Fmt.{decimal}
use Rattle.scr_reader.specs.Streams.{messages_at_end}
use Rattle.scr_reader.specs.declared.header.Header.{Header}
use Rattle.scr_reader.specs.declared.line.Line.{Line}
use Rattle.choice_problem.specs.Problems.{ProblemView}
use Rattle.choice_problem.specs.declared.problems.TheConstants.{MOST_UNITS}
use Rattle.search_workers.specs.Outcomes.{choice_count}
use Rattle.series_model.specs.declared.state.UnitState.{UnitState}
use Rattle.series_model.specs.Submissions.{SubmissionView}
use Rattle.cert_format.specs.declared.cert.StageCert.{StageCert}
use Rattle.cert_format.specs.declared.cert.Certificate.{Certificate}
use Rattle.cert_format.specs.declared.cert.Mark.TheVariants.{Infeasible}
use Rattle.season_run.specs.Runs.{IsStageRun}
use Rattle.holding_book.specs.declared.answer.Entry.{Entry}
use Rattle.holding_book.specs.Books.{SlotBook}
use Rattle.holding_book.specs.Histories.{replay}
use Rattle.holding_book.specs.Starts.{start_book}
use Rattle.scr_replies.specs.Answers.{message_reply}
use Rattle.scr_replies.specs.SeasonReplies.{unit_answer}
use Rattle.amend_run.specs.Amended.{IsAskedBy, IsFirstHeader}
use Rattle.wait_list.specs.Waiting.{waiting_lines, allotted_states, IsWaitingProblem}
use Rattle.wait_list.specs.Claims.{named_times, WaitingMarkHolds, FitsBesideBook}
use Rattle.desk_commands.specs.Amendments.{IsOneHistory}
use Rattle.desk_commands.specs.Spelled.{SpellsExtra}
use Rattle.desk_commands.specs.StageLines.{mark_line, marks_status}
use Rattle.desk_commands.specs.declared.files.TheConstants.{LONGEST_CERT_FILE}

-- ---- what asks leave

-- the messages of the text are answered by this history, from the book of the certificate
pub record IsAskedOf (s : SubmissionView) (c : Certificate) (asks : List ℕ) (history : List Entry) :
    Type 0 where
  pub texts : List (List ℕ)
  pub asked : IsAskedBy (start_book s c) asks history texts

-- the book after them, and the lines that wait beside it
abbrev pub last_book : SubmissionView → Certificate → List Entry → SlotBook
last_book s c history = replay (start_book s c) history

abbrev pub left_waiting : SubmissionView → Certificate → List Entry → List Line
left_waiting s c history = waiting_lines (last_book s c history) history

-- ---- what is written and printed

-- one message, with an answer to each line; nothing where no line waits
abbrev pub waiting_replies : Option Header → List UnitState → List ℕ
waiting_replies None states = []
waiting_replies (Some header) [] = []
waiting_replies (Some header) (state ∷ states) =
    message_reply header (flat_map (unit_answer header.season) (state ∷ states))

-- how many lines wait, and the line of their stage, the fifth
abbrev pub waiting_text : ℕ → StageCert → List ℕ
waiting_text count stage =
    codes "WAITING " ++ (decimal count ++ (10 ∷ mark_line 5 stage))

-- The problem of lines that wait beside a book is searched as that of a stage of a season, with a
-- budget of nodes; the stage is spelled, in at most as many bytes as are read of one, the replies
-- are given by its choice, its line is printed, and the status is that of its mark. It is 0 where
-- the budget is enough.
pub record IsWaitingOutput (b : SlotBook) (lines : List Line) (header : Option Header) (nodes : ℕ)
    (extra replies : List ℕ) (status : ℕ) (text : List ℕ) : Type 0 where
  pub problem : ProblemView
  pub problem_is : IsWaitingProblem b lines problem
  pub stage : StageCert
  pub run : IsStageRun problem nodes stage
  pub feasible : stage.mark ≢ Infeasible
  pub spelled : SpellsExtra extra stage
  pub short : length extra ≤ LONGEST_CERT_FILE
  pub replied : replies
      ≡ waiting_replies header (allotted_states b.declaration lines stage.choice)
  pub printed : text ≡ waiting_text (length lines) stage
  pub status_is : status ≡ marks_status (stage ∷ [])
  pub settled : 2 * choice_count problem ≤ nodes + 1 → status ≡ 0

-- so of the lines that the asks leave waiting; the replies are dated as the first good message of
-- the asks
pub record IsRecleared (s : SubmissionView) (c : Certificate) (asks : List ℕ) (nodes : ℕ)
    (extra replies : List ℕ) (status : ℕ) (text : List ℕ) : Type 0 where
  pub history : List Entry
  pub header : Option Header
  pub asked : IsAskedOf s c asks history
  pub one : IsOneHistory (start_book s c) history
  pub first : IsFirstHeader s.declaration.season s.declaration.airport (messages_at_end asks) header
  pub few : length (left_waiting s c history) ≤ MOST_UNITS
  pub output : IsWaitingOutput (last_book s c history) (left_waiting s c history) header nodes extra
      replies status text

-- ---- the headline

-- The asks are answered by one history; and what the stage says of the lines that wait is so,
-- beside the book that the history left: marked OPTIMAL it has an allotment that displaces least of
-- all that fit what the book leaves, marked OPEN none displaces less than its bound. The holdings
-- and what is allotted fit together.
pub record StageIsProved (s : SubmissionView) (c : Certificate) (asks : List ℕ)
    (history : List Entry) (stage : StageCert) : Type 0 where
  pub asked : IsAskedOf s c asks history
  pub one : IsOneHistory (start_book s c) history
  pub mark : WaitingMarkHolds (last_book s c history) (left_waiting s c history) stage
  pub fits : IfSome stage.choice (λ numbers.
      FitsBesideBook (last_book s c history) (left_waiting s c history)
      (named_times (last_book s c history) (left_waiting s c history) numbers))
