-- The places of a cabinet in memory.
use Rattle.std.specs.Prelude.{◌≡◌, ℕ, ◌<◌, List, length, take, map, slice_index_or}
use Rattle.desk_outside.specs.InMemory.{HeldFile}
use Rattle.desk_outside.specs.declared.slots.Slot.{Slot}
use Rattle.desk_outside.specs.declared.slots.TheConstants.{NAME_ROOM}

-- the file in a place that is used
abbrev pub file_in : Slot → HeldFile
file_in slot = record { name = slot.name.bytes; bytes = slot.bytes.bytes }

-- the files in the first places
abbrev pub files_in : ℕ → List Slot → List HeldFile
files_in used slots = map file_in (take used slots)

-- each place has room for a name and for the bytes of a file
abbrev pub HaveRoom : ℕ → List Slot → Type 0
HaveRoom room slots = (at : ℕ) (d : Slot) → at < length slots
    → ((slice_index_or slots at d).name.room ≡ NAME_ROOM)
    × ((slice_index_or slots at d).bytes.room ≡ room)
