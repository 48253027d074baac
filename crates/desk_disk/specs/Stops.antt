-- A disk as the list of its calls: what the file may hold after them, and what a stop of the
-- machine may leave of it. It is said of any bytes that the file had at first, so it holds of a
-- disk that does not tell them, too.
use Rattle.std.specs.Prelude.{◌≡◌, ℕ, ◌+◌, ◌≤◌, max, List, [], ◌∷◌, ◌++◌, length, take, drop}
use Rattle.std.specs.Prelude.{Contains}

-- The length was asked for and answered. Bytes were read at a place, and handed out. Bytes were
-- written at a place, or a write of them failed. The file was cut to a length, or a cut failed. All
-- that was done was brought to the disk, or that failed.
pub data DiskPassage : Type 0 where
  measured : ℕ → DiskPassage
  read_at : ℕ → List ℕ → DiskPassage
  wrote_at : ℕ → List ℕ → DiskPassage
  write_failed_at : ℕ → List ℕ → DiskPassage
  cut_to : ℕ → DiskPassage
  cut_failed : ℕ → DiskPassage
  synced : DiskPassage
  sync_failed : DiskPassage

-- the bytes, written over what is there and past its end
abbrev pub over : List ℕ → ℕ → List ℕ → List ℕ
over old at bytes = take at old ++ (bytes ++ drop (at + length bytes) old)

-- after a write of n bytes that a stop cut short, or that no sync has followed: any bytes in their
-- place and past the old end, the same elsewhere
pub record Torn (at n : ℕ) (old new : List ℕ) : Type 0 where
  pub front : take at new ≡ take at old
  pub back : drop (at + n) new ≡ drop (at + n) old
  pub no_shorter : length old ≤ length new
  pub no_longer : length new ≤ max (length old) (at + n)

-- after a cut that a stop cut short, or that no sync has followed: some length from n on
abbrev pub IsCutAt : ℕ → List ℕ → List ℕ → Type 0
IsCutAt n old new = (m : ℕ) × (n ≤ m) × (new ≡ take m old)

-- these bytes stand at the place
abbrev pub HasBytesAt : List ℕ → ℕ → List ℕ → Type 0
HasBytesAt file at bytes = take (length bytes) (drop at file) ≡ bytes

-- What the file may hold after one call, by what it might hold before. A call that showed something
-- of it leaves what agrees with that: its length, its bytes, or that a write began within it or at
-- its end.
abbrev pub read_after : DiskPassage → (List ℕ → Type 0) → List ℕ → Type 0
read_after (measured n) R new = R new × (length new ≡ n)
read_after (read_at at bytes) R new = R new × HasBytesAt new at bytes
read_after (wrote_at at bytes) R new =
    (old : List ℕ) × R old × (at ≤ length old) × (new ≡ over old at bytes)
read_after (write_failed_at at bytes) R new =
    (old : List ℕ) × R old × Torn at (length bytes) old new
read_after (cut_to n) R new = (old : List ℕ) × R old × (new ≡ take n old)
read_after (cut_failed n) R new = (old : List ℕ) × R old × IsCutAt n old new
read_after synced R new = R new
read_after sync_failed R new = R new

-- what a stop may leave within one call or after it, by what it might leave before: after a sync
-- nothing but what a read gives
abbrev pub left_after : DiskPassage → (List ℕ → Type 0) → (List ℕ → Type 0) → List ℕ → Type 0
left_after (measured n) R I new = I new
left_after (read_at at bytes) R I new = I new
left_after (wrote_at at bytes) R I new = (old : List ℕ) × I old × Torn at (length bytes) old new
left_after (write_failed_at at bytes) R I new =
    (old : List ℕ) × I old × Torn at (length bytes) old new
left_after (cut_to n) R I new = (old : List ℕ) × I old × IsCutAt n old new
left_after (cut_failed n) R I new = (old : List ℕ) × I old × IsCutAt n old new
left_after synced R I new = R new
left_after sync_failed R I new = I new

-- the same after several calls
abbrev pub ReadAfter : (List ℕ → Type 0) → List DiskPassage → List ℕ → Type 0
ReadAfter R [] = R
ReadAfter R (passage ∷ log) = ReadAfter (read_after passage R) log

abbrev pub LeftAfter : (List ℕ → Type 0) → (List ℕ → Type 0) → List DiskPassage → List ℕ → Type 0
LeftAfter R I [] = I
LeftAfter R I (passage ∷ log) = LeftAfter (read_after passage R) (left_after passage R I) log

-- at each moment of the calls, also within one, every image that a stop may leave has the property
abbrev pub AlwaysLeft : (List ℕ → Type 0) → (List ℕ → Type 0) → (List ℕ → Type 0)
    → List DiskPassage → Type 0
AlwaysLeft P R I [] = (image : List ℕ) → I image → P image
AlwaysLeft P R I (passage ∷ log) = ((image : List ℕ) → I image → P image)
    × AlwaysLeft P (read_after passage R) (left_after passage R I) log

-- how the file stood at first: as it was read, and which other images a stop might have left then
pub record DiskStart : Type 0 where
  pub read : List ℕ
  pub others : List (List ℕ)

abbrev pub IsFirst : DiskStart → List ℕ → Type 0
IsFirst s first = first ≡ s.read

abbrev pub IsFirstImage : DiskStart → List ℕ → Type 0
IsFirstImage s first = Contains (s.read ∷ s.others) first

-- what a read may give after these calls, and what a stop may leave then
abbrev pub MayRead : DiskStart → List DiskPassage → List ℕ → Type 0
MayRead s log c = ReadAfter (IsFirst s) log c

abbrev pub MayLeave : DiskStart → List DiskPassage → List ℕ → Type 0
MayLeave s log c = LeftAfter (IsFirst s) (IsFirstImage s) log c

-- the calls told nothing that the file cannot have held, had it stood so at first
abbrev pub Agrees : DiskStart → List DiskPassage → Type 0
Agrees s log = (c : List ℕ) × MayRead s log c

-- every image has the property at each moment from the one log to the other
abbrev pub AtEachMoment : DiskStart → List DiskPassage → List DiskPassage → (List ℕ → Type 0)
    → Type 0
AtEachMoment s before now P = (more : List DiskPassage) × (now ≡ before ++ more)
    × AlwaysLeft P (MayRead s before) (MayLeave s before) more
