-- Serving clients: the workers of a desk answer the messages that come over the links of their
-- doors, by one history of a book.
use Rattle.std.specs.Prelude.{◌≡◌, ℕ, suc, ◌+◌, ◌≤◌, ◌<◌, Bool, true, false, if◌then◌else◌}
use Rattle.std.specs.Prelude.{List, [], ◌∷◌, ◌++◌, length, codes, All, sum_by}
use Rattle.std.specs.Fmt.{decimal}
use Rattle.std.specs.List.{list_any}
use Rattle.turn_lock.specs.History.{own}
use Rattle.desk_links.specs.Doors.{DoorView}
use Rattle.holding_book.specs.declared.answer.Entry.{Entry}
use Rattle.holding_book.specs.Books.{SlotBook}
use Rattle.scr_replies.specs.History.{history_text}
use Rattle.slot_ledger.specs.Starts.{entry_caller}
use Rattle.session_desk.specs.Served.{HasServed}
use Rattle.session_desk.specs.Begun.{desk_caller, HasBroken, IsAnsweredBy, IsBegunBy}
use Rattle.session_desk.specs.declared.worker.DoorEnd.{DoorEnd}
use Rattle.session_desk.specs.declared.worker.DoorEnd.TheVariants as ends
use Rattle.session_desk.specs.declared.worker.DoorWork.{DoorWork}
use Rattle.desk_commands.specs.Amendments.{IsOneHistory, entries_line}
use Rattle.desk_commands.specs.declared.service_lines.TheConstants.{MOST_ENTRIES}

-- nothing is kept beside the history that could fail
abbrev pub never_breaks : List Entry → ℕ → Type 0
never_breaks told faults = ⊥

-- What the worker of this number did at its door, by the one history: it served links one after the
-- other, at most so many, each by a right session, and the entries of its sessions, one after the
-- other, are those of this caller in the history. `broken` says what is kept beside the history has
-- failed.
abbrev pub IsWorker : {X : Type 0} → (List X → ℕ → Type 0) → SlotBook → ℕ → List Entry → ℕ
    → DoorView → DoorWork → DoorView → Type 0
IsWorker broken start links history number d work e =
    HasServed (IsAnsweredBy (desk_caller start.declaration MOST_ENTRIES number))
    (IsBegunBy (HasBroken broken) (desk_caller start.declaration MOST_ENTRIES number))
    links d [] work e (own entry_caller number history)

-- the workers from this number on, each at its door
abbrev pub AreWorkers : (ℕ → DoorView → DoorWork → DoorView → Type 0) → ℕ → List DoorView
    → List DoorWork → List DoorView → Type 0
AreWorkers Serves number [] [] [] = Unit {0}
AreWorkers Serves number (d ∷ ds) (work ∷ works) (e ∷ es) =
    Serves number d work e × AreWorkers Serves (suc number) ds works es
AreWorkers Serves number ds works es = ⊥

-- ---- how workers ended

abbrev pub is_door_end : DoorEnd → Bool
is_door_end ends.Served = false
is_door_end ends.Full = false
is_door_end ends.Broken = false
is_door_end ends.Door = true
is_door_end ends.Memory = false

abbrev pub is_full_end : DoorEnd → Bool
is_full_end ends.Served = false
is_full_end ends.Full = true
is_full_end ends.Broken = false
is_full_end ends.Door = false
is_full_end ends.Memory = false

abbrev pub is_memory_end : DoorEnd → Bool
is_memory_end ends.Served = false
is_memory_end ends.Full = false
is_memory_end ends.Broken = false
is_memory_end ends.Door = false
is_memory_end ends.Memory = true

abbrev pub is_broken_end : DoorEnd → Bool
is_broken_end ends.Served = false
is_broken_end ends.Full = false
is_broken_end ends.Broken = true
is_broken_end ends.Door = false
is_broken_end ends.Memory = false

abbrev pub some_ended : (DoorEnd → Bool) → List DoorWork → Bool
some_ended is works = list_any (λ work. is work.end) works

-- a door failed; or else the history was full when a client asked for more; or all is done
abbrev pub served_status : List DoorWork → ℕ
served_status works =
    if some_ended is_door_end works then 10
    else (if some_ended is_full_end works then 11 else 0)

-- ---- what is printed

abbrev pub links_total : List DoorWork → ℕ
links_total works = sum_by (λ (work : DoorWork). work.links) works

-- how many entries the history has, and how many links were served
abbrev pub served_lines : ℕ → ℕ → List ℕ
served_lines entries links =
    entries_line entries ++ (codes "LINKS " ++ (decimal links ++ (10 ∷ [])))

-- ---- all of it

-- The doors were served, each by a worker, at most so many links of each, by one history of the
-- book, behind so many entries that were found; no worker wanted memory. Where one found the
-- history full there are, with those, as many entries as may be.
pub record AreServed {X : Type 0} (broken : List X → ℕ → Type 0) (found : ℕ) (start : SlotBook)
    (links : ℕ) (before after : List DoorView) (history : List Entry) (works : List DoorWork)
    : Type 0 where
  pub one : IsOneHistory start history
  pub few : found + length history ≤ MOST_ENTRIES
  pub callers : All (λ (entry : Entry). entry.caller < length before) history
  pub workers : AreWorkers (IsWorker broken start links history) 0 before works after
  pub remembered : some_ended is_memory_end works ≡ false
  pub full : some_ended is_full_end works ≡ true → found + length history ≡ MOST_ENTRIES

-- The doors were served, with nothing found and nothing kept beside; the text of the history is
-- recorded.
pub record ServesLegally (start : SlotBook) (links : ℕ) (before after : List DoorView)
    (recorded : List ℕ) (status : ℕ) (text : List ℕ) : Type 0 where
  pub history : List Entry
  pub works : List DoorWork
  pub served : AreServed never_breaks 0 start links before after history works
  pub recorded_is : recorded ≡ history_text start.declaration.season history
  pub status_is : status ≡ served_status works
  pub printed : text ≡ served_lines (length history) (links_total works)
