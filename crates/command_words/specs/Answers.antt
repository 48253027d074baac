-- What a reader of words answers.
use Rattle.std.specs.Prelude.{◌≡◌, Option, Some, None, Result, Ok, Err}
use Rattle.command_words.specs.declared.job.WordFault.{WordFault}
use Rattle.command_words.specs.declared.job.WordFault.TheVariants.{Words, Memory}

-- what was asked for, `Words` where nothing was, or that memory ran out
abbrev pub Answers : {X : Type 0} → Option X → Result X WordFault → Type 0
Answers asked (Ok x) = asked ≡ Some x
Answers asked (Err Words) = asked ≡ None
Answers asked (Err Memory) = Unit {0}
