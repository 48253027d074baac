-- Where lines and words end. A line ends at an LF, and its words are what stands between its
-- blanks.
use Rattle.std.specs.Prelude.{ℕ, ◌==◌, if◌then◌else◌, List, [], ◌∷◌}
use Rattle.cert_format.specs.Lines.{Word}

-- a byte in front of a line; a blank ends an empty word
abbrev pub onto_line : ℕ → List Word → List Word
onto_line b [] = []
onto_line b (w ∷ ws) = if b == 32 then [] ∷ w ∷ ws else (b ∷ w) ∷ ws

-- a byte in front of lines; bytes after the last LF are shown as a line of no words, which no whole
-- line is
abbrev pub onto_lines : ℕ → List (List Word) → List (List Word)
onto_lines b [] = [] ∷ []
onto_lines b (ws ∷ lines) = onto_line b ws ∷ lines

-- the lines of a text
unfoldable pub cert_lines_of : List ℕ → List (List Word)
cert_lines_of [] = []
cert_lines_of (b ∷ bytes) =
    if b == 10 then ([] ∷ []) ∷ cert_lines_of bytes else onto_lines b (cert_lines_of bytes)

-- the words of a line
unfoldable pub line_words : List ℕ → List Word
line_words [] = [] ∷ []
line_words (b ∷ line) = onto_line b (line_words line)
