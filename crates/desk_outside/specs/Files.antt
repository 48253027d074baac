-- What a cabinet holds, where that is told, and what its calls answer and leave.
use Rattle.std.specs.Prelude.{◌≡◌, Contains, ℕ, ◌<◌, ◌≤◌, ◌⊎◌, List, length, take, Option, Some}
use Rattle.std.specs.Prelude.{None, Result, Ok, Err, IsSomeAnd, if◌then◌else◌}
use Rattle.std.specs.Str.{bytes_eq}
use Rattle.std.specs.Global.{Vec}
use Rattle.desk_outside.specs.Cause.{Rose}
use Rattle.desk_outside.specs.declared.cabinet.CabinetFault.{CabinetFault}
use Rattle.desk_outside.specs.declared.cabinet.CabinetFault.TheVariants.{Failed, Missing, Larger}
use Rattle.desk_outside.specs.declared.cabinet.CabinetFault.TheVariants.{Memory}

-- the bytes under each name that is held
abbrev pub Files : Type 0
Files = List ℕ → Option (List ℕ)

-- the files where one of them now has these bytes
abbrev pub with_file : Files → List ℕ → List ℕ → Files
with_file files name bytes = λ asked. if bytes_eq name asked then Some bytes else files asked

-- What a read of a name may answer, where the files are known and where they aren't.
abbrev pub Reads : Option Files → List ℕ → ℕ → ℕ → ℕ → Result (Vec ℕ) CabinetFault → Type 0
Reads (Some files) name most before now (Ok bytes) = (files name ≡ Some bytes.items)
    × (length bytes.items ≤ most)
Reads (Some files) name most before now (Err Missing) = files name ≡ None
Reads (Some files) name most before now (Err Larger) =
    IsSomeAnd (files name) (λ bytes. most < length bytes)
Reads (Some files) name most before now (Err Failed) = Rose before now
Reads (Some files) name most before now (Err Memory) = Unit {0}
Reads None name most before now (Ok bytes) = length bytes.items ≤ most
Reads None name most before now (Err Missing) = Rose before now
Reads None name most before now (Err Larger) = Rose before now
Reads None name most before now (Err Failed) = Rose before now
Reads None name most before now (Err Memory) = Unit {0}

-- after a write of the bytes under the name
abbrev pub Writes : Option Files → List ℕ → List ℕ → Option Files → Type 0
Writes None name bytes after = Unit {0}
Writes (Some files) name bytes after = after ≡ Some (with_file files name bytes)

-- after a write that failed: the files as before, or with a front of the bytes under the name
abbrev pub WritesPart : Option Files → List ℕ → List ℕ → Option Files → Type 0
WritesPart None name bytes after = Unit {0}
WritesPart (Some files) name bytes after = (after ≡ Some files)
    ⊎ ((n : ℕ) × (after ≡ Some (with_file files name (take n bytes))))

-- every name but these has the bytes that it had before, where that is told
abbrev pub ChangesOnly : Option Files → List (List ℕ) → Option Files → Type 0
ChangesOnly None names after = Unit {0}
ChangesOnly (Some before) names None = ⊥
ChangesOnly (Some before) names (Some after) = (name : List ℕ) → (Contains names name → ⊥)
    → after name ≡ before name
