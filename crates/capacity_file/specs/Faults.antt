-- Why a text is no capacity file: the first cause in the order that is told here.
use Rattle.std.specs.Prelude.{◌≡◌, ◌⊎◌, ℕ, ◌<◌, ◌≤◌, List, [], ◌∷◌, length, All}
use Rattle.slot_text.specs.Lines.{lines_of}
use Rattle.season_days.specs.Capacity.{capacity_of, declared_resources}
use Rattle.season_days.specs.declared.declaration.Declaration.{Declaration}
use Rattle.season_days.specs.declared.declaration.TheConstants.{MOST_RULES, MOST_WINDOWS}
use Rattle.capacity_file.specs.Lines.{LineStates, HasWord, LacksWord, IsBad, IsRepeat, IsCleanBefore, IsClean}
use Rattle.capacity_file.specs.Declares.{Declares, IsWholeSteps}
use Rattle.capacity_file.specs.declared.limits.TheConstants.{MOST_FLEX}
use Rattle.capacity_file.specs.declared.entry.Entry.TheVariants.{Flex as flex_entry}
use Rattle.capacity_file.specs.declared.entry.Word.{Word}
use Rattle.capacity_file.specs.declared.entry.Word.TheVariants.{Airport as airport_word, Season as season_word, Step as step_word, Flex as flex_word, Ground as ground_word, Refuse as refuse_word}
use Rattle.capacity_file.specs.declared.fault.CapWord.{CapWord}
use Rattle.capacity_file.specs.declared.fault.CapWord.TheVariants.{Airport, Season, Step, Flex, Ground, Refuse}
use Rattle.capacity_file.specs.declared.fault.CapLimit.{CapLimit}
use Rattle.capacity_file.specs.declared.fault.CapLimit.TheVariants.{Flex as flex_limit, Caps, Windows}
use Rattle.capacity_file.specs.declared.fault.CapFault.{CapFault}
use Rattle.capacity_file.specs.declared.fault.CapFault.TheVariants.{BadLine, Missing, Twice, OverLimit, Memory}

-- ---- words that are missing

abbrev pub needed_word : CapWord → Word
needed_word Airport = airport_word
needed_word Season = season_word
needed_word Step = step_word
needed_word Flex = flex_word
needed_word Ground = ground_word
needed_word Refuse = refuse_word

-- the words that are looked for before this one
abbrev pub words_before : CapWord → List Word
words_before Airport = []
words_before Season = airport_word ∷ []
words_before Step = airport_word ∷ season_word ∷ []
words_before Flex = airport_word ∷ season_word ∷ step_word ∷ []
words_before Ground = airport_word ∷ season_word ∷ step_word ∷ flex_word ∷ []
words_before Refuse = airport_word ∷ season_word ∷ step_word ∷ flex_word ∷ ground_word ∷ []

-- the first of the needed words with which no line begins
pub record IsMissing (lines : List (List ℕ)) (name : CapWord) : Type 0 where
  pub before : All (HasWord lines) (words_before name)
  pub lacks : LacksWord lines (needed_word name)

-- ---- limits of the declaration

-- the first limit that these minutes, capacity lines or windows pass, and by which number
abbrev pub PassesLimit : CapLimit → ℕ → ℕ → ℕ → ℕ → Type 0
PassesLimit flex_limit number minutes lines resources = (MOST_FLEX < minutes) × (number ≡ minutes)
PassesLimit Caps number minutes lines resources = (minutes ≤ MOST_FLEX) × (MOST_RULES < lines)
    × (number ≡ lines)
PassesLimit Windows number minutes lines resources = (minutes ≤ MOST_FLEX) × (lines ≤ MOST_RULES)
    × (MOST_WINDOWS < resources) × (number ≡ resources)

abbrev pub PassesLimitOf : CapLimit → ℕ → Declaration → Type 0
PassesLimitOf name number d =
    PassesLimit name number d.flex (length d.rules) (declared_resources (capacity_of d))

-- ---- the causes, in order: the lowest line that is bad or a repetition; a word that is missing; a
-- flexibility that is no whole number of steps, which is a fault of its line; a limit

pub record IsBrokenStep (lines : List (List ℕ)) (number : ℕ) : Type 0 where
  pub clean : IsClean lines
  pub d : Declaration
  pub declares : Declares lines d
  pub line : LineStates lines number (flex_entry d.flex)
  pub uneven : IsWholeSteps d → ⊥

pub record IsOverLimit (lines : List (List ℕ)) (name : CapLimit) (number : ℕ) : Type 0 where
  pub clean : IsClean lines
  pub d : Declaration
  pub declares : Declares lines d
  pub even : IsWholeSteps d
  pub over : PassesLimitOf name number d

abbrev pub LinesHaveFault : List (List ℕ) → CapFault → Type 0
LinesHaveFault lines (BadLine number) = (IsCleanBefore lines number × IsBad lines number)
    ⊎ IsBrokenStep lines number
LinesHaveFault lines (Missing name) = IsClean lines × IsMissing lines name
LinesHaveFault lines (Twice number) = IsCleanBefore lines number × IsRepeat lines number
LinesHaveFault lines (OverLimit name number) = IsOverLimit lines name number
LinesHaveFault lines Memory = ⊥

-- the fault that the text has
abbrev pub HasCapacityFault : List ℕ → CapFault → Type 0
HasCapacityFault text fault = LinesHaveFault (lines_of text) fault
