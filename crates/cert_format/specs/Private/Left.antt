-- The words that are left of a line.
use Rattle.std.specs.Prelude.{ℕ, List, [], Option, Some, None}
use Rattle.std.specs.Borrow.{Bor}
use Rattle.cert_format.specs.Lines.{Word}
use Rattle.cert_format.specs.Private.Cuts.{line_words}
use Rattle.cert_format.specs.declared.place.Words.{Words}

abbrev pub words_in : Option (Bor (List ℕ)) → List Word
words_in None = []
words_in (Some text) = line_words text.now

abbrev pub words_left : Words → List Word
words_left w = words_in w.rest
