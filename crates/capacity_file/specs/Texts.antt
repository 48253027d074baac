-- What a fault prints.
use Rattle.std.specs.Prelude.{ℕ, List, ◌++◌, codes}
use Rattle.std.specs.Fmt.{decimal}
use Rattle.slot_text.specs.Texts.{memory_text}
use Rattle.capacity_file.specs.declared.fault.CapWord.{CapWord}
use Rattle.capacity_file.specs.declared.fault.CapWord.TheVariants.{Airport, Season, Step, Flex, Ground, Refuse}
use Rattle.capacity_file.specs.declared.fault.CapLimit.{CapLimit}
use Rattle.capacity_file.specs.declared.fault.CapLimit.TheVariants.{Flex as flex_limit, Caps, Windows}
use Rattle.capacity_file.specs.declared.fault.CapFault.{CapFault}
use Rattle.capacity_file.specs.declared.fault.CapFault.TheVariants.{BadLine, Missing, Twice, OverLimit, Memory}

-- the word with which the line begins
abbrev pub cap_word_text : CapWord → List ℕ
cap_word_text Airport = codes "AIRPORT"
cap_word_text Season = codes "SEASON"
cap_word_text Step = codes "STEP"
cap_word_text Flex = codes "FLEX"
cap_word_text Ground = codes "GROUND"
cap_word_text Refuse = codes "REFUSE"

abbrev pub cap_limit_text : CapLimit → List ℕ
cap_limit_text flex_limit = codes "FLEX"
cap_limit_text Caps = codes "CAPS"
cap_limit_text Windows = codes "WINDOWS"

abbrev pub cap_fault_text : CapFault → List ℕ
cap_fault_text (BadLine line) = codes "line "
    ++ (decimal line ++ codes ": no line of a capacity file")
cap_fault_text (Missing name) = codes "no " ++ (cap_word_text name ++ codes " line")
cap_fault_text (Twice line) = codes "line "
    ++ (decimal line ++ codes ": a word that has a line already")
cap_fault_text (OverLimit name number) = cap_limit_text name
    ++ (codes " " ++ (decimal number ++ codes " is over the limit"))
cap_fault_text Memory = memory_text
