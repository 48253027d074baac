-- The lines of a capacity file, by their numbers from 1, and those that spoil it.
use Rattle.std.specs.Prelude.{◌≡◌, ◌≢◌, ◌⊎◌, ℕ, zero, suc, ◌<◌, List, Option, Some, None, slice_get}
use Rattle.capacity_file.specs.Entries.{word_of, IsEmpty, States}
use Rattle.capacity_file.specs.declared.entry.Entry.{Entry}
use Rattle.capacity_file.specs.declared.entry.Word.{Word}
use Rattle.capacity_file.specs.declared.entry.Word.TheVariants.{Cap as cap_word}

-- the line of a number
abbrev pub line_at : List (List ℕ) → ℕ → Option (List ℕ)
line_at lines zero = None
line_at lines (suc n) = slice_get lines n

-- the line of this number states the entry
pub record LineStates (lines : List (List ℕ)) (number : ℕ) (entry : Entry) : Type 0 where
  pub line : List ℕ
  pub stands : line_at lines number ≡ Some line
  pub states : States line entry

-- some line states the entry
abbrev pub IsStated : List (List ℕ) → Entry → Type 0
IsStated lines entry = (number : ℕ) × LineStates lines number entry

-- some line, or none, states an entry with this word
abbrev pub HasWord : List (List ℕ) → Word → Type 0
HasWord lines word = (entry : Entry) × IsStated lines entry × (word_of entry ≡ word)

abbrev pub LacksWord : List (List ℕ) → Word → Type 0
LacksWord lines word = HasWord lines word → ⊥

-- the line of this number is not empty, and states nothing
pub record IsBad (lines : List (List ℕ)) (number : ℕ) : Type 0 where
  pub line : List ℕ
  pub stands : line_at lines number ≡ Some line
  pub full : IsEmpty line → ⊥
  pub nothing : (entry : Entry) → States line entry → ⊥

-- the line of this number begins with a word, other than CAP, with which an earlier line begins
pub record IsRepeat (lines : List (List ℕ)) (number : ℕ) : Type 0 where
  pub entry : Entry
  pub other : Entry
  pub earlier : ℕ
  pub states : LineStates lines number entry
  pub stated : LineStates lines earlier other
  pub before : earlier < number
  pub same : word_of other ≡ word_of entry
  pub single : word_of entry ≢ cap_word

abbrev pub IsSpoiled : List (List ℕ) → ℕ → Type 0
IsSpoiled lines number = IsBad lines number ⊎ IsRepeat lines number

-- no line before this number is bad or a repetition
abbrev pub IsCleanBefore : List (List ℕ) → ℕ → Type 0
IsCleanBefore lines number = (earlier : ℕ) → earlier < number → IsSpoiled lines earlier → ⊥

-- no line is
abbrev pub IsClean : List (List ℕ) → Type 0
IsClean lines = (number : ℕ) → IsSpoiled lines number → ⊥
