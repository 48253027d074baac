-- What the faults print.
use Rattle.std.specs.Prelude.{ℕ, List, ◌++◌, codes}
use Rattle.std.specs.Fmt.{decimal}

abbrev pub memory_text : List ℕ
memory_text = codes "out of memory"

-- with the place
abbrev pub not_number_text : ℕ → List ℕ
not_number_text at = codes "no number at byte " ++ decimal at
