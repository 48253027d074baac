-- What contracts see of a disk, and what its calls leave. A disk is one file of bytes, whose writes
-- a stop of the machine may undo or cut short until a sync has followed them.
use Rattle.std.specs.Prelude.{◌≡◌, ℕ, ◌+◌, min, max, List, [], ◌∷◌, ◌++◌, length, take, Option}
use Rattle.std.specs.Prelude.{Some, None, Result, Ok, Err, IfSome}
use Rattle.desk_disk.specs.Stops.{DiskPassage, measured, read_at, wrote_at, write_failed_at, cut_to}
use Rattle.desk_disk.specs.Stops.{cut_failed, synced, sync_failed, over, Torn, IsCutAt, DiskStart}
use Rattle.desk_disk.specs.Stops.{MayRead}

-- a disk that tells: how the file stood at first, and what it holds now, as a read gives it
pub record ToldDisk : Type 0 where
  pub start : DiskStart
  pub bytes : List ℕ

-- what is told, where anything is; how often a call failed; and the calls so far, the earliest first
pub record DiskView : Type 0 where
  pub told : Option ToldDisk
  pub faults : ℕ
  pub log : List DiskPassage

-- the same of a disk that tells nothing
pub record CountedDisk : Type 0 where
  pub faults : ℕ
  pub log : List DiskPassage

-- where the disk tells, its calls so far are such that it may hold what it says that it holds
abbrev pub TellsTruly : DiskView → Type 0
TellsTruly v = IfSome v.told (λ t. MayRead t.start v.log t.bytes)

-- The least length that the calls show the file to have: a caller knows no more of it.
abbrev pub shown_by : DiskPassage → ℕ → ℕ
shown_by (measured n) least = n
shown_by (read_at at bytes) least = max least (at + length bytes)
shown_by (wrote_at at bytes) least = max least (at + length bytes)
shown_by (write_failed_at at bytes) least = least
shown_by (cut_to n) least = n
shown_by (cut_failed n) least = min least n
shown_by synced least = least
shown_by sync_failed least = least

abbrev pub shown_from : ℕ → List DiskPassage → ℕ
shown_from least [] = least
shown_from least (passage ∷ log) = shown_from (shown_by passage least) log

abbrev pub shown_length : List DiskPassage → ℕ
shown_length log = shown_from 0 log

-- what each call adds to the log; one that asked for something and failed adds nothing
abbrev pub with_length : {E : Type 0} → List DiskPassage → Result ℕ E → List DiskPassage
with_length log (Ok n) = log ++ measured n ∷ []
with_length log (Err fault) = log

abbrev pub with_read_at : {E : Type 0} → List DiskPassage → ℕ → List ℕ → Result (Unit {0}) E
    → List DiskPassage
with_read_at log at bytes (Ok _) = log ++ read_at at bytes ∷ []
with_read_at log at bytes (Err fault) = log

abbrev pub with_write_at : {E : Type 0} → List DiskPassage → ℕ → List ℕ → Result (Unit {0}) E
    → List DiskPassage
with_write_at log at bytes (Ok _) = log ++ wrote_at at bytes ∷ []
with_write_at log at bytes (Err fault) = log ++ write_failed_at at bytes ∷ []

abbrev pub with_cut : {E : Type 0} → List DiskPassage → ℕ → Result (Unit {0}) E → List DiskPassage
with_cut log n (Ok _) = log ++ cut_to n ∷ []
with_cut log n (Err fault) = log ++ cut_failed n ∷ []

abbrev pub with_sync : {E : Type 0} → List DiskPassage → Result (Unit {0}) E → List DiskPassage
with_sync log (Ok _) = log ++ synced ∷ []
with_sync log (Err fault) = log ++ sync_failed ∷ []

-- what a told disk holds after a write, and after a cut; one that failed leaves what a stop within
-- it might leave
abbrev pub Stores : {E : Type 0} → Option ToldDisk → ℕ → List ℕ → Result (Unit {0}) E
    → Option ToldDisk → Type 0
Stores None at bytes result after = after ≡ None
Stores (Some t) at bytes (Ok _) after = after ≡ Some (record t { bytes = over t.bytes at bytes })
Stores (Some t) at bytes (Err fault) after = (new : List ℕ) × Torn at (length bytes) t.bytes new
    × (after ≡ Some (record t { bytes = new }))

abbrev pub Shortens : {E : Type 0} → Option ToldDisk → ℕ → Result (Unit {0}) E → Option ToldDisk
    → Type 0
Shortens None n result after = after ≡ None
Shortens (Some t) n (Ok _) after = after ≡ Some (record t { bytes = take n t.bytes })
Shortens (Some t) n (Err fault) after = (new : List ℕ) × IsCutAt n t.bytes new
    × (after ≡ Some (record t { bytes = new }))
