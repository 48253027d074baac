-- What links and doors in memory hold, answer and leave.
use Rattle.std.specs.Prelude.{◌≡◌, ℕ, ◌-◌, ◌==◌, ◌&&◌, ◌||◌, Bool, not, false, nat_le, nat_lt, min}
use Rattle.std.specs.Prelude.{max, List, [], ◌∷◌, length, map, Some, is_some}
use Rattle.desk_outside.specs.Passages.{Passage}
use Rattle.desk_outside.specs.Failures.{failure_at}
use Rattle.desk_outside.specs.declared.failures.Failure.{Failure}
use Rattle.desk_links.specs.Links.{LinkView, IsFresh}
use Rattle.desk_links.specs.Doors.{DoorView}

-- the input of a link, and how much of it was taken
pub record ScriptView : Type 0 where
  pub input : List ℕ
  pub taken : ℕ

-- What contracts see of a link in memory: its whole input, and how much of it was taken; the
-- greatest sizes of the next takes; what it was given, and the most that it has room for; the calls
-- that are to fail, and the number of takes and puts so far; whether its input has ended, the
-- number of calls that failed, and what passed.
pub record HeldLink : Type 0 where
  pub input : List ℕ
  pub taken : ℕ
  pub sizes : List ℕ
  pub sent : List ℕ
  pub byte_limit : ℕ
  pub failing : List Failure
  pub made : ℕ
  pub ended : Bool
  pub faults : ℕ
  pub log : List Passage

-- what every link shows
abbrev pub link_view : HeldLink → LinkView
link_view l = record {
  told = Some (record { input = l.input; sent = l.sent });
  ended = l.ended;
  faults = l.faults;
  log = l.log;
}

-- a link just made
abbrev pub new_link : List ℕ → List ℕ → ℕ → List Failure → HeldLink
new_link input sizes byte_limit failing = record {
  input = input;
  taken = 0;
  sizes = sizes;
  sent = [];
  byte_limit = byte_limit;
  failing = failing;
  made = 0;
  ended = false;
  faults = 0;
  log = [];
}

-- The most that a take hands out into so much room: the size that is listed for it, where a size of
-- 0 counts as 1, or all where none is listed any more.
abbrev pub next_size : List ℕ → ℕ → ℕ
next_size [] room = room
next_size (size ∷ sizes) room = min (max 1 size) room

abbrev pub later_sizes : List ℕ → List ℕ
later_sizes [] = []
later_sizes (size ∷ sizes) = sizes

-- how many bytes a take hands out that is not to fail
abbrev pub take_count : HeldLink → ℕ → ℕ
take_count l room = min (next_size l.sizes room) (length l.input - l.taken)

-- whether a take succeeds, and whether a put of the bytes does: it is not to fail, and the bytes
-- have room
abbrev pub gives_bytes : HeldLink → Bool
gives_bytes l = not (is_some (failure_at l.failing l.made))

abbrev pub sends_bytes : HeldLink → List ℕ → Bool
sends_bytes l bytes = gives_bytes l && nat_le (length bytes) (l.byte_limit - length l.sent)

-- a link as it was made
abbrev pub IsUnused : HeldLink → Type 0
IsUnused l = IsFresh (link_view l) × (l.sent ≡ [])

-- What contracts see of a door in memory: the links that are still to come, the next one first, and
-- how many it handed out; those that it kept, and how many it has room for; the calls of accept
-- that are to fail, how many there were so far, and how many failed.
pub record HeldDoor : Type 0 where
  pub coming : List HeldLink
  pub admitted : ℕ
  pub kept : List HeldLink
  pub room : ℕ
  pub failing : List Failure
  pub made : ℕ
  pub faults : ℕ

-- what every door shows
abbrev pub door_view : HeldDoor → DoorView
door_view d = record {
  coming = Some (map (λ l. l.input) d.coming);
  admitted = d.admitted;
  kept = map link_view d.kept;
  faults = d.faults;
  room = d.room;
}

-- a door just made
abbrev pub new_door : List HeldLink → ℕ → List Failure → HeldDoor
new_door coming room failing = record {
  coming = coming;
  admitted = 0;
  kept = [];
  room = room;
  failing = failing;
  made = 0;
  faults = 0;
}

-- whether an accept succeeds: it is not to fail, and where a link comes there is room for it
abbrev pub admits_next : HeldDoor → Bool
admits_next d = not (is_some (failure_at d.failing d.made))
    && ((length d.coming == 0) || nat_lt (length d.kept) d.room)
