-- What a disk in memory holds, answers and leaves.
use Rattle.std.specs.Prelude.{ℕ, ◌-◌, ◌==◌, ◌&&◌, Bool, not, nat_le, List, [], length, Option, Some}
use Rattle.std.specs.Prelude.{None, is_some, if◌then◌else◌}
use Rattle.desk_outside.specs.Cause.{one_more}
use Rattle.desk_outside.specs.Failures.{failure_at}
use Rattle.desk_outside.specs.declared.failures.Failure.{Failure}
use Rattle.desk_disk.specs.Stops.{DiskPassage, DiskStart}
use Rattle.desk_disk.specs.Disks.{DiskView}

-- the calls that are to fail, the number of calls so far, and how many more there is room for
pub record TurnsView : Type 0 where
  pub failing : List Failure
  pub made : ℕ
  pub left : ℕ

-- whether and how the next call is to fail: it is listed, or there is no room for it
abbrev pub turn_failure : TurnsView → Option Failure
turn_failure t =
    if t.left == 0 then Some (record { call = 0; part = None })
    else failure_at t.failing t.made

-- after one more call
abbrev pub after_turn : TurnsView → TurnsView
after_turn t = record t { made = one_more t.made; left = t.left - 1 }

-- What contracts see of a disk in memory: its bytes at first and now, and the most that it has room
-- for; its calls so far and those that are to fail; how many failed, and what they were.
pub record HeldDisk : Type 0 where
  pub first : List ℕ
  pub bytes : List ℕ
  pub byte_limit : ℕ
  pub turns : TurnsView
  pub faults : ℕ
  pub log : List DiskPassage

-- it was read so at first, and no other image of it was left then
abbrev pub started : List ℕ → DiskStart
started first = record { read = first; others = [] }

-- what every disk shows
abbrev pub disk_view : HeldDisk → DiskView
disk_view d = record {
  told = Some (record { start = started d.first; bytes = d.bytes });
  faults = d.faults;
  log = d.log;
}

-- a disk just made
abbrev pub new_disk : List ℕ → ℕ → ℕ → List Failure → HeldDisk
new_disk bytes byte_limit call_limit failing = record {
  first = bytes;
  bytes = bytes;
  byte_limit = byte_limit;
  turns = record { failing = failing; made = 0; left = call_limit };
  faults = 0;
  log = [];
}

-- whether a call succeeds that takes no room, and whether a write does
abbrev pub serves_call : HeldDisk → Bool
serves_call d = not (is_some (turn_failure d.turns))

abbrev pub stores_bytes : HeldDisk → ℕ → List ℕ → Bool
stores_bytes d at bytes = serves_call d && nat_le (length bytes) (d.byte_limit - at)
