-- What a command prints at its end, and with which status.
use Rattle.std.specs.Prelude.{ℕ, List, [], ◌∷◌, ◌++◌, codes}
use Rattle.std.specs.Fmt.{decimal}
use Rattle.cert_checker.specs.declared.verdict.Reason.{Reason}
use Rattle.cert_checker.specs.declared.verdict.Reason.TheVariants as because
use Rattle.fault_causes.specs.Causes.{cause_text}
use Rattle.fault_causes.specs.declared.cause.Cause.{Cause}
use Rattle.command_words.specs.Words.{Word}

-- What is refused before any work is done: a file that is not there, or is larger than what is
-- read; the first line of a file that is not in its form; a limit that is passed, by which number;
-- the first failing line of a certificate, or of one more stage, and why it fails; that no season
-- follows for which lines could be written; and the same of a line or of a limit with its cause.
pub data Refusal : Type 0 where
  missing : Word → Refusal
  large : Word → Refusal
  out_of_form : Word → ℕ → Refusal
  over_limit : Word → ℕ → Refusal
  not_valid : ℕ → Reason → Refusal
  no_next : Refusal
  extra_fails : ℕ → Reason → Refusal
  bad_form : Word → ℕ → Cause → Refusal
  past_limit : Word → ℕ → Cause → Refusal

-- Why a journal was not opened, behind all files that are read: there is no disk; its file begins
-- as no journal does; the slot of this number is not whole, or spells nothing in the season; or a
-- call of the disk failed.
pub data JournalRefusal : Type 0 where
  no_journal : JournalRefusal
  other_journal : JournalRefusal
  bad_slot : ℕ → JournalRefusal
  journal_fault : JournalRefusal

-- How a command ends: the words are no command's; a refusal; a journal that was not opened; a read
-- or a write failed; or the work is done, with this status and text.
pub data Report : Type 0 where
  no_command : Report
  refused : Refusal → Report
  unopened : JournalRefusal → Report
  unread : Word → Report
  unwritten : Word → Report
  finished : ℕ → List ℕ → Report

-- ---- statuses

abbrev pub refusal_status : Refusal → ℕ
refusal_status (missing name) = 5
refusal_status (large name) = 5
refusal_status (out_of_form name line) = 3
refusal_status (over_limit name number) = 4
refusal_status (not_valid line reason) = 1
refusal_status no_next = 15
refusal_status (extra_fails line reason) = 1
refusal_status (bad_form name line cause) = 3
refusal_status (past_limit name number cause) = 4

abbrev pub journal_status : JournalRefusal → ℕ
journal_status no_journal = 13
journal_status other_journal = 13
journal_status (bad_slot number) = 13
journal_status journal_fault = 14

abbrev pub status_of : Report → ℕ
status_of no_command = 2
status_of (refused refusal) = refusal_status refusal
status_of (unopened why) = journal_status why
status_of (unread name) = 5
status_of (unwritten name) = 5
status_of (finished status text) = status

-- ---- texts

abbrev pub cabinet_line : Word → Word → List ℕ
cabinet_line name what = codes "CABINET " ++ (name ++ (32 ∷ (what ++ (10 ∷ []))))

abbrev pub numbered_line : Word → Word → ℕ → List ℕ
numbered_line first name number = first ++ (32 ∷ (name ++ (32 ∷ (decimal number ++ (10 ∷ [])))))

abbrev pub reason_text : Reason → List ℕ
reason_text because.Mark = codes "MARK"
reason_text because.Units = codes "UNITS"
reason_text because.Choice = codes "CHOICE"
reason_text because.Cost = codes "COST"
reason_text because.Fit = codes "FIT"
reason_text because.Bound = codes "BOUND"
reason_text because.Price = codes "PRICE"
reason_text because.Fixing = codes "FIXING"
reason_text because.Shape = codes "SHAPE"
reason_text because.Closed = codes "CLOSED"
reason_text because.Split = codes "SPLIT"
reason_text because.Leaf = codes "LEAF"
reason_text because.Over = codes "OVER"
reason_text because.Undone = codes "UNDONE"
reason_text because.Floor = codes "FLOOR"

-- a second line says why
abbrev pub cause_line : Cause → List ℕ
cause_line cause = cause_text cause ++ 10 ∷ []

abbrev pub refusal_text : Refusal → List ℕ
refusal_text (missing name) = cabinet_line name (codes "MISSING")
refusal_text (large name) = cabinet_line name (codes "LARGE")
refusal_text (out_of_form name line) = numbered_line (codes "FORM") name line
refusal_text (over_limit name number) = numbered_line (codes "LIMIT") name number
refusal_text (not_valid line reason) =
    codes "NO " ++ (decimal line ++ (32 ∷ (reason_text reason ++ (10 ∷ []))))
refusal_text no_next = codes "NEXT NONE\n"
refusal_text (extra_fails line reason) =
    codes "NO EXTRA " ++ (decimal line ++ (32 ∷ (reason_text reason ++ (10 ∷ []))))
refusal_text (bad_form name line cause) =
    numbered_line (codes "FORM") name line ++ cause_line cause
refusal_text (past_limit name number cause) =
    numbered_line (codes "LIMIT") name number ++ cause_line cause

abbrev pub journal_text : JournalRefusal → List ℕ
journal_text no_journal = codes "JOURNAL NONE\n"
journal_text other_journal = codes "JOURNAL OTHER\n"
journal_text (bad_slot number) = codes "JOURNAL SLOT " ++ (decimal number ++ (10 ∷ []))
journal_text journal_fault = codes "JOURNAL FAULT\n"

abbrev pub text_of : Report → List ℕ
text_of no_command = codes "WORDS\n"
text_of (refused refusal) = refusal_text refusal
text_of (unopened why) = journal_text why
text_of (unread name) = cabinet_line name (codes "READ")
text_of (unwritten name) = cabinet_line name (codes "WRITE")
text_of (finished status text) = text

-- the same refusal with its cause
abbrev pub with_cause : Refusal → Cause → Refusal
with_cause (out_of_form name line) cause = bad_form name line cause
with_cause (over_limit name number) cause = past_limit name number cause
with_cause refusal cause = refusal
