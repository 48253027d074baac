-- What the fault of words prints.
use Rattle.std.specs.Prelude.{ℕ, List, codes}
use Rattle.slot_text.specs.Texts.{memory_text}
use Rattle.command_words.specs.declared.job.WordFault.{WordFault}
use Rattle.command_words.specs.declared.job.WordFault.TheVariants.{Words, Memory}

abbrev pub word_fault_text : WordFault → List ℕ
word_fault_text Words = codes "no command has these words"
word_fault_text Memory = memory_text
