-- What the parts of the reader answer.
use Rattle.std.specs.Prelude.{◌≡◌, ◌≢◌, ℕ, suc, ◌≤◌, List, ◌++◌, drop, Option, Some, None}
use Rattle.season_days.specs.declared.declaration.Rule.{Rule}
use Rattle.capacity_file.specs.Words.{word_text}
use Rattle.capacity_file.specs.Entries.{word_of, IsAllowedEntry, AreValues, IsEmpty, States}
use Rattle.capacity_file.specs.Lines.{LineStates, IsCleanBefore}
use Rattle.capacity_file.specs.Declares.{AreRules}
use Rattle.capacity_file.specs.declared.draft.FlexLine.{FlexLine}
use Rattle.capacity_file.specs.declared.draft.Singles.{Singles}
use Rattle.capacity_file.specs.declared.line.Reading.{Reading}
use Rattle.capacity_file.specs.declared.line.Reading.TheVariants.{Empty, Bad, Stated}
use Rattle.capacity_file.specs.declared.entry.Entry.{Entry}
use Rattle.capacity_file.specs.declared.entry.Entry.TheVariants.{Airport, Season, Step, Flex, Ground, Share, Refuse, Night}
use Rattle.capacity_file.specs.declared.entry.Word.{Word}
use Rattle.capacity_file.specs.declared.entry.Word.TheVariants.{Airport as airport_word, Season as season_word, Step as step_word, Flex as flex_word, Ground as ground_word, Share as share_word, Refuse as refuse_word, Night as night_word}

-- the value that fields spell; where there is none, they spell none that is allowed
abbrev pub IsValueOf : {X : Type 0} → (X → Entry) → List (List ℕ) → Option X → Type 0
IsValueOf {X} make fields None = (x : X) → IsAllowedEntry (make x) → AreValues (make x) fields → ⊥
IsValueOf {X} make fields (Some x) = IsAllowedEntry (make x) × AreValues (make x) fields

-- the entry of a word whose values the fields spell
abbrev pub IsEntryOf : Word → List (List ℕ) → Option Entry → Type 0
IsEntryOf word fields None = (entry : Entry) → word_of entry ≡ word → IsAllowedEntry entry →
    AreValues entry fields → ⊥
IsEntryOf word fields (Some entry) = (word_of entry ≡ word) × IsAllowedEntry entry
    × AreValues entry fields

-- the entry of a line, by its first field and the others
abbrev pub IsEntry : List ℕ → List (List ℕ) → Option Entry → Type 0
IsEntry first fields None = (entry : Entry) → first ≡ word_text (word_of entry) →
    IsAllowedEntry entry → AreValues entry fields → ⊥
IsEntry first fields (Some entry) = (first ≡ word_text (word_of entry)) × IsAllowedEntry entry
    × AreValues entry fields

-- what a line is by itself
abbrev pub IsLineReading : List ℕ → Reading → Type 0
IsLineReading line Empty = IsEmpty line
IsLineReading line Bad = (IsEmpty line → ⊥) × ((entry : Entry) → States line entry → ⊥)
IsLineReading line (Stated entry) = States line entry

-- ---- what the first lines, so many, have stated

abbrev pub Unstated : List (List ℕ) → ℕ → Word → Type 0
Unstated lines count word = (number : ℕ) (entry : Entry) → number ≤ count →
    LineStates lines number entry → word_of entry ≢ word

abbrev pub Known : {X : Type 0} → List (List ℕ) → ℕ → Word → (X → Entry) → Option X → Type 0
Known lines count word make None = Unstated lines count word
Known lines count word make (Some x) = (number : ℕ) × (number ≤ count)
    × LineStates lines number (make x)

abbrev pub KnownFlex : List (List ℕ) → ℕ → Option FlexLine → Type 0
KnownFlex lines count None = Unstated lines count flex_word
KnownFlex lines count (Some flex) = (flex.line ≤ count)
    × LineStates lines flex.line (Flex flex.minutes)

pub record Collected (lines : List (List ℕ)) (count : ℕ) (singles : Singles)
    (rules : List Rule) : Type 0 where
  pub clean : IsCleanBefore lines (suc count)
  pub airport : Known lines count airport_word Airport singles.airport
  pub season : Known lines count season_word Season singles.season
  pub step : Known lines count step_word Step singles.step
  pub flex : KnownFlex lines count singles.flex
  pub ground_time : Known lines count ground_word Ground singles.ground_time
  pub share : Known lines count share_word Share singles.share
  pub refuse : Known lines count refuse_word Refuse singles.refuse
  pub night : Known lines count night_word Night singles.night
  pub caps : (rest : List Rule) → AreRules (drop count lines) rest → AreRules lines (rules ++ rest)
