-- The words of a command line.
use Rattle.std.specs.Prelude.{ℕ, List, map, String}
use Rattle.std.specs.String.{string_bytes}
use Rattle.std.specs.Global.{Global}

-- a word by its bytes
abbrev pub Word : Type 0
Word = List ℕ

abbrev pub words_of : List (String Global) → List Word
words_of words = map string_bytes words
