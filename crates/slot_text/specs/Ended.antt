-- Lines with their ends.
use Rattle.std.specs.Prelude.{ℕ, ◌==◌, if◌then◌else◌, List, [], ◌∷◌, ◌++◌}
use Rattle.slot_text.specs.Lines.{onto_first}

-- lines, each with its LF
abbrev pub ended : List (List ℕ) → List ℕ
ended [] = []
ended (line ∷ lines) = line ++ (10 ∷ ended lines)

-- the lines of a text, each with its LF, which the last may lack
unfoldable pub ended_lines : List ℕ → List (List ℕ)
ended_lines [] = []
ended_lines (b ∷ text) = if b == 10 then (10 ∷ []) ∷ ended_lines text
    else onto_first b (ended_lines text)
