-- What a cabinet and a sink in memory hold, answer and leave.
use Rattle.std.specs.Prelude.{◌≡◌, ◌⊎◌, ℕ, ◌-◌, Bool, ◌&&◌, ◌||◌, not, nat_lt, nat_le, List, []}
use Rattle.std.specs.Prelude.{◌∷◌, ◌++◌, length, Option, Some, None, is_some, Result, Ok, Err, IsOk}
use Rattle.std.specs.Prelude.{if◌then◌else◌}
use Rattle.std.specs.Str.{bytes_eq}
use Rattle.std.specs.Global.{Vec}
use Rattle.desk_outside.specs.Cause.{one_more}
use Rattle.desk_outside.specs.Failures.{failure_at, taken_by, sent_bytes}
use Rattle.desk_outside.specs.Passages.{Passage}
use Rattle.desk_outside.specs.declared.failures.Failure.{Failure}
use Rattle.desk_outside.specs.declared.slots.TheConstants.{NAME_ROOM}
use Rattle.desk_outside.specs.declared.cabinet.CabinetFault.{CabinetFault}
use Rattle.desk_outside.specs.declared.cabinet.CabinetFault.TheVariants.{Failed, Missing, Larger}
use Rattle.desk_outside.specs.declared.cabinet.CabinetFault.TheVariants.{Memory}

-- a file
pub record HeldFile : Type 0 where
  pub name : List ℕ
  pub bytes : List ℕ

-- What contracts see of a cabinet in memory: its files, each name once, in the order in which they
-- were first put in; the room that it was made with, a number of files and a number of bytes for
-- each; the calls that are to fail; the number of reads and writes so far, and of those that
-- failed; and what passed so far.
pub record CabinetView : Type 0 where
  pub files : List HeldFile
  pub file_limit : ℕ
  pub byte_limit : ℕ
  pub failing : List Failure
  pub made : ℕ
  pub faults : ℕ
  pub log : List Passage

-- a cabinet just made
abbrev pub new_cabinet : ℕ → ℕ → List Failure → CabinetView
new_cabinet file_limit byte_limit failing = record {
  files = [];
  file_limit = file_limit;
  byte_limit = byte_limit;
  failing = failing;
  made = 0;
  faults = 0;
  log = [];
}

-- the bytes under a name
abbrev pub bytes_under : List HeldFile → List ℕ → Option (List ℕ)
bytes_under [] name = None
bytes_under (file ∷ files) name =
    if bytes_eq file.name name then Some file.bytes else bytes_under files name

-- the files with these bytes under the name: in the place of the file of that name, or behind all
-- others
abbrev pub put_file : List HeldFile → List ℕ → List ℕ → List HeldFile
put_file [] name bytes = record { name = name; bytes = bytes } ∷ []
put_file (file ∷ files) name bytes =
    if bytes_eq file.name name then record file { bytes = bytes } ∷ files
    else file ∷ put_file files name bytes

-- the file fits: its bytes do, and its name is held, or is at most 255 bytes long with a place for
-- one more file
abbrev pub has_room : CabinetView → List ℕ → List ℕ → Bool
has_room c name bytes = nat_le (length bytes) c.byte_limit
    && (is_some (bytes_under c.files name)
    || (nat_lt (length c.files) c.file_limit && nat_le (length name) NAME_ROOM))

-- the cabinet with the file in it, or as it was where the file does not fit
abbrev pub with_loaded : CabinetView → List ℕ → List ℕ → CabinetView
with_loaded c name bytes =
    if has_room c name bytes then record c { files = put_file c.files name bytes } else c

-- whether and how the next call is to fail
abbrev pub next_failure : CabinetView → Option Failure
next_failure c = failure_at c.failing c.made

-- after one more call, and after one more fault
abbrev pub with_call : CabinetView → CabinetView
with_call c = record c { made = one_more c.made }

abbrev pub with_fault : CabinetView → CabinetView
with_fault c = record c { faults = one_more c.faults }

-- what a read answers, where its call is not to fail, for the bytes that are held
abbrev pub found_file : ℕ → Option (List ℕ) → Result (List ℕ) CabinetFault
found_file most None = Err Missing
found_file most (Some bytes) = if nat_lt most (length bytes) then Err Larger else Ok bytes

-- what a read answers with ample memory
abbrev pub read_answer : CabinetView → List ℕ → ℕ → Result (List ℕ) CabinetFault
read_answer c name most =
    if is_some (next_failure c) then Err Failed else found_file most (bytes_under c.files name)

-- the call answers this, or that memory ran out for the bytes that it was to hand out
abbrev pub GivesFile : Result (List ℕ) CabinetFault → Result (Vec ℕ) CabinetFault → Type 0
GivesFile answer (Ok bytes) = answer ≡ Ok bytes.items
GivesFile answer (Err fault) = (answer ≡ Err fault) ⊎ ((fault ≡ Memory) × IsOk answer)

-- after a read: it is counted, and where it was to fail a fault too
abbrev pub after_read : CabinetView → CabinetView
after_read c = if is_some (next_failure c) then with_fault (with_call c) else with_call c

-- whether a write succeeds: it is not to fail, and the file fits
abbrev pub takes_file : CabinetView → List ℕ → List ℕ → Bool
takes_file c name bytes = not (is_some (next_failure c)) && has_room c name bytes

-- the cabinet with what a write takes under the name, where it takes anything
abbrev pub with_taken : CabinetView → List ℕ → Option (List ℕ) → CabinetView
with_taken c name None = c
with_taken c name (Some bytes) = with_loaded c name bytes

-- After a write. One that is not to fail puts the whole file in, or nothing where it has no room;
-- one that is to fail puts in the front that its entry says, or nothing.
abbrev pub after_write : CabinetView → List ℕ → List ℕ → CabinetView
after_write c name bytes =
    let left = with_taken (with_call c) name (taken_by (next_failure c) bytes) in
    if takes_file c name bytes then left else with_fault left

-- What contracts see of a sink in memory: its bytes, the most that it has room for, the calls that
-- are to fail, the number of puts so far, and of those that failed; and what passed so far.
pub record SinkView : Type 0 where
  pub bytes : List ℕ
  pub byte_limit : ℕ
  pub failing : List Failure
  pub made : ℕ
  pub faults : ℕ
  pub log : List Passage

-- a sink just made
abbrev pub new_sink : ℕ → List Failure → SinkView
new_sink byte_limit failing = record {
  bytes = [];
  byte_limit = byte_limit;
  failing = failing;
  made = 0;
  faults = 0;
  log = [];
}

-- how many bytes more it has room for
abbrev pub free_bytes : SinkView → ℕ
free_bytes s = s.byte_limit - length s.bytes

-- whether a put succeeds: it is not to fail, and its bytes fit
abbrev pub takes_bytes : SinkView → List ℕ → Bool
takes_bytes s bytes = not (is_some (failure_at s.failing s.made))
    && nat_le (length bytes) (free_bytes s)

-- after a put: what it appended, and where it did not succeed a fault
abbrev pub after_put : SinkView → List ℕ → SinkView
after_put s bytes =
    record s {
      bytes = s.bytes ++ sent_bytes (free_bytes s) (failure_at s.failing s.made) bytes;
      made = one_more s.made;
      faults = if takes_bytes s bytes then s.faults else one_more s.faults;
    }
