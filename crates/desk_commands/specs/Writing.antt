-- Several writes in their order.
use Rattle.std.specs.Prelude.{◌≡◌, ◌⊎◌, List, [], ◌∷◌, Option, Some, IfSome}
use Rattle.desk_outside.specs.Files.{Files, with_file, Writes, WritesPart}
use Rattle.desk_outside.specs.Passages.{Passage, read, wrote, write_failed}
use Rattle.command_words.specs.Words.{Word}
use Rattle.desk_commands.specs.Judgements.{NamedBytes}

-- the passage of a file that was read, and of one that was written
abbrev pub read_of : NamedBytes → Passage
read_of file = read file.name file.bytes

abbrev pub written_of : NamedBytes → Passage
written_of file = wrote file.name file.bytes

-- the files after all writes
abbrev pub with_writes : Files → List NamedBytes → Files
with_writes files [] = files
with_writes files (file ∷ writes) = with_writes (with_file files file.name file.bytes) writes

-- the writes were made, where files are told
abbrev pub AreWritten : Option Files → List NamedBytes → Option Files → Type 0
AreWritten files writes after = IfSome files (λ held. after ≡ Some (with_writes held writes))

-- A write under the name failed. Those before it stand, its own file is as before or has a front of
-- the bytes, and no later one was begun. This passed, and these files are left.
abbrev pub StopsAt : Option Files → List NamedBytes → Word → Option Files → List Passage → Type 0
StopsAt files [] name after passed = ⊥
StopsAt files (file ∷ writes) name after passed =
    ((name ≡ file.name) × WritesPart files file.name file.bytes after
    × (passed ≡ write_failed file.name file.bytes ∷ []))
    ⊎ ((between : Option Files) × (later : List Passage)
    × Writes files file.name file.bytes between × StopsAt between writes name after later
    × (passed ≡ written_of file ∷ later))
