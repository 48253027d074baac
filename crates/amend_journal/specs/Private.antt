-- Forms of the code, which private contracts alone cite.
use Rattle.std.specs.Prelude.{◌≡◌, ℕ, ◌+◌, ◌*◌, ◌≤◌, List, [], ◌∷◌, ◌++◌, length, All}
use Rattle.season_days.specs.Term.{Term}
use Rattle.desk_disk.specs.Stops.{DiskPassage, measured, read_at, wrote_at, write_failed_at, cut_to}
use Rattle.desk_disk.specs.Stops.{cut_failed, synced, sync_failed, DiskStart, MayRead, MayLeave}
use Rattle.desk_disk.specs.Disks.{shown_length}
use Rattle.amend_journal.specs.Format.{header, slot_bytes, open_slots, IsFit, HasGate, IsJournalOf}
use Rattle.amend_journal.specs.Standing.{HasFault}
use Rattle.amend_journal.specs.declared.asked.Asked.{Asked}
use Rattle.amend_journal.specs.declared.fault.OpenFault.{OpenFault}

-- calls that showed something of the file, and changed nothing
abbrev pub AreLooks : List DiskPassage → Type 0
AreLooks [] = Unit {0}
AreLooks (measured n ∷ log) = AreLooks log
AreLooks (read_at at bytes ∷ log) = AreLooks log
AreLooks (wrote_at at bytes ∷ log) = ⊥
AreLooks (write_failed_at at bytes ∷ log) = ⊥
AreLooks (cut_to n ∷ log) = ⊥
AreLooks (cut_failed n ∷ log) = ⊥
AreLooks (synced ∷ log) = ⊥
AreLooks (sync_failed ∷ log) = ⊥

-- from the one log to the other there were such calls alone
pub record OnlyLooked (before now : List DiskPassage) : Type 0 where
  pub more : List DiskPassage
  pub log : now ≡ before ++ more
  pub looks : AreLooks more

-- the calls have shown that the file is so long
pub record IsSized (log : List DiskPassage) (size : ℕ) : Type 0 where
  pub shown : size ≤ shown_length log
  pub sized : (s : DiskStart) (c : List ℕ) → MayRead s log c → length c ≡ size

-- the calls have shown so much of the file: the header, open slots of these pairs, and the value of
-- the gate behind them
pub record HasRead (season : Term) (log : List DiskPassage) (size : ℕ) (asks : List Asked)
    (gate : ℕ) : Type 0 where
  pub fit : All (IsFit season) asks
  pub sized : IsSized log size
  pub within : 17 + 256 * length asks ≤ size
  pub begins : (s : DiskStart) (c : List ℕ) → MayRead s log c
      → HasGate (header ++ open_slots season asks) gate c

-- the same with an open gate, and the bytes of its slot and of the next gate
pub record HasReadSlot (season : Term) (log : List DiskPassage) (size : ℕ) (asks : List Asked)
    (bytes : List ℕ) : Type 0 where
  pub fit : All (IsFit season) asks
  pub sized : IsSized log size
  pub within : 17 + 256 * length asks + 256 ≤ size
  pub begins : (s : DiskStart) (c : List ℕ) → MayRead s log c
      → (behind : List ℕ) × (c ≡ (header ++ open_slots season asks) ++ 1 ∷ (bytes ++ behind))

-- whatever the file may hold by now, opening it has this fault
abbrev pub AlwaysFaulty : Term → List DiskPassage → OpenFault → Type 0
AlwaysFaulty season log fault =
    (s : DiskStart) (c : List ℕ) → MayRead s log c → HasFault season fault c

-- whatever the file may hold by now, it is a journal of these pairs
abbrev pub AlwaysJournalOf : Term → List DiskPassage → List Asked → Type 0
AlwaysJournalOf season log asks =
    (s : DiskStart) (c : List ℕ) → MayRead s log c → IsJournalOf season asks c

-- whatever a stop may leave of the file has at most 17 bytes
abbrev pub IsShort : DiskStart → List DiskPassage → Type 0
IsShort s log = (c : List ℕ) → MayLeave s log c → length c ≤ 17

-- these bytes behind a gate spell the pair
pub record SpellsPair (season : Term) (bytes : List ℕ) (asked : Asked) : Type 0 where
  pub fit : IsFit season asked
  pub is : bytes ≡ slot_bytes season asked
