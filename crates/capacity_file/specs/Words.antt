-- The words with which the lines of a capacity file begin.
use Rattle.std.specs.Prelude.{ℕ, List, codes}
use Rattle.capacity_file.specs.declared.entry.Word.{Word}
use Rattle.capacity_file.specs.declared.entry.Word.TheVariants.{Airport, Season, Step, Flex, Ground, Share, Refuse, Night, Cap}

abbrev pub word_text : Word → List ℕ
word_text Airport = codes "AIRPORT"
word_text Season = codes "SEASON"
word_text Step = codes "STEP"
word_text Flex = codes "FLEX"
word_text Ground = codes "GROUND"
word_text Share = codes "SHARE"
word_text Refuse = codes "REFUSE"
word_text Night = codes "NIGHT"
word_text Cap = codes "CAP"
