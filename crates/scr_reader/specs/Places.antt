-- Where the messages of a text stand.
use Rattle.std.specs.Prelude.{◌≡◌, ℕ, zero, suc, ◌+◌, ◌-◌, ◌≤◌, List, [], ◌∷◌, length, drop, slice_range}
use Rattle.slot_text.specs.Lines.{after_line, lines_of}
use Rattle.scr_reader.specs.Messages.{Run}
use Rattle.scr_reader.specs.declared.message.Piece.{Piece}

-- what follows so many lines and their ends
unfoldable pub after_lines : ℕ → List ℕ → List ℕ
after_lines zero bytes = bytes
after_lines (suc n) bytes = after_lines n (after_line bytes)

-- The piece holds the lines of the run and their ends, and nothing else: it begins behind the lines
-- before the run and ends where the next line begins.
pub record StandsAt (bytes : List ℕ) (run : Run) (piece : Piece) : Type 0 where
  pub line : piece.line ≡ run.number
  pub ordered : piece.from ≤ piece.to
  pub within : piece.to ≤ length bytes
  pub begins : drop piece.from bytes ≡ after_lines (run.number - 1) bytes
  pub ends : drop piece.to bytes ≡ after_lines (run.number - 1 + length run.lines) bytes
  pub lines : lines_of (slice_range bytes piece.from piece.to) ≡ run.lines

-- the pieces are those of the runs, in order
abbrev pub StandAt : List ℕ → List Run → List Piece → Type 0
StandAt bytes [] [] = Unit {0}
StandAt bytes [] (piece ∷ pieces) = ⊥
StandAt bytes (run ∷ runs) [] = ⊥
StandAt bytes (run ∷ runs) (piece ∷ pieces) = StandsAt bytes run piece × StandAt bytes runs pieces
