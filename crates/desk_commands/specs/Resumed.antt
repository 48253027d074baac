-- Serving clients with a journal: the one history begins with what the journal had, and the journal
-- keeps each entry more.
use Rattle.std.specs.Prelude.{◌≡◌, ℕ, Bool, true, if◌then◌else◌, List, [], ◌∷◌, ◌++◌, length, codes}
use Rattle.std.specs.Prelude.{Option, Some, is_some}
use Rattle.std.specs.Fmt.{decimal}
use Rattle.desk_disk.specs.Disks.{DiskView}
use Rattle.holding_book.specs.declared.answer.Entry.{Entry}
use Rattle.holding_book.specs.Books.{SlotBook}
use Rattle.holding_book.specs.Asks.{reply, next}
use Rattle.scr_replies.specs.History.{history_text}
use Rattle.slot_ledger.specs.Starts.{new_entry}
use Rattle.amend_journal.specs.Told.{EndsBroken}
use Rattle.amend_journal.specs.Kept.{asks_of, book_after}
use Rattle.amend_journal.specs.declared.asked.Asked.{Asked}
use Rattle.session_desk.specs.declared.worker.DoorWork.{DoorWork}
use Rattle.desk_commands.specs.Amendments.{IsOneHistory}
use Rattle.desk_commands.specs.Outside.{OutsideChange}
use Rattle.desk_commands.specs.Services.{AreServed, some_ended, is_broken_end, served_status}
use Rattle.desk_commands.specs.Services.{served_lines, links_total}
use Rattle.desk_commands.specs.Journals.{KeepsAsks}

-- the entries of pairs that are answered anew on a book, one after the other
abbrev pub answered_anew : SlotBook → List Asked → List Entry
answered_anew b [] = []
answered_anew b (asked ∷ asks) = new_entry asked.caller asked.ask (reply b asked.ask)
    ∷ answered_anew (next b asked.ask) asks

-- a put of the journal failed; or else as where there is none
abbrev pub resumed_status : Bool → List DoorWork → ℕ
resumed_status failed works = if failed then 14 else served_status works

-- how many pairs were found, how many entries were made since, and how many links were served
abbrev pub resumed_lines : ℕ → ℕ → ℕ → List ℕ
resumed_lines kept entries links =
    codes "KEPT " ++ (decimal kept ++ (10 ∷ served_lines entries links))

-- The doors were served from the book after the pairs that were found, and the text of the history
-- since is recorded. The pairs answered anew and that history are one history of the certificate's
-- book, and the journal keeps the pairs and what was asked since. A worker that ended since the
-- journal had failed tells so.
pub record ResumesLegally (start : SlotBook) (links : ℕ) (change : OutsideChange)
    (recorded : List ℕ) (status : ℕ) (text : List ℕ) : Type 0 where
  pub before : DiskView
  pub after : DiskView
  pub pairs : List Asked
  pub history : List Entry
  pub works : List DoorWork
  pub failed : Option Asked
  pub handed_in : change.before.disk ≡ Some before
  pub given_back : change.after.disk ≡ Some after
  pub kept : KeepsAsks start.declaration.season pairs (asks_of history) failed before after
  pub whole : IsOneHistory start (answered_anew start pairs ++ history)
  pub served : AreServed EndsBroken (length pairs) (book_after start pairs) links
      change.before.doors change.after.doors history works
  pub broken : some_ended is_broken_end works ≡ true → is_some failed ≡ true
  pub recorded_is : recorded ≡ history_text start.declaration.season history
  pub status_is : status ≡ resumed_status (is_some failed) works
  pub printed : text ≡ resumed_lines (length pairs) (length history) (links_total works)
