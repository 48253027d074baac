-- Lines of words, and their text.
use Rattle.std.specs.Prelude.{ℕ, List, [], ◌∷◌, ◌++◌}
use Rattle.std.specs.List.{flat_map}

abbrev pub Word : Type 0
Word = List ℕ

-- the text of a line, with one blank between two words and an LF at its end
unfoldable pub spelled_line : List Word → List ℕ
spelled_line [] = []
spelled_line (w ∷ []) = w ++ 10 ∷ []
spelled_line (w ∷ v ∷ ws) = w ++ 32 ∷ spelled_line (v ∷ ws)

-- the text of lines
abbrev pub text_of : List (List Word) → List ℕ
text_of lines = flat_map spelled_line lines
