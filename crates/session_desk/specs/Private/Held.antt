-- What is kept of a message that is under way.
use Rattle.std.specs.Prelude.{◌≡◌, ◌⊎◌, ℕ, ◌+◌, ◌*◌, ◌≤◌, ◌==◌, Bool, true, false, not, ◌||◌, ◌&&◌, nat_lt}
use Rattle.std.specs.Prelude.{List, [], ◌∷◌, ◌++◌, length, take, if◌then◌else◌}
use Rattle.slot_text.specs.Lines.{lines_of}
use Rattle.slot_text.specs.Fields.{is_blank, is_blank_line}
use Rattle.slot_text.specs.declared.lines.TheConstants.{LONGEST_LINE}
use Rattle.scr_reader.specs.declared.message.TheConstants.{MOST_MESSAGE_LINES}
use Rattle.scr_reader.specs.Streams.{open_lines, open_bytes, without_last_cr, is_broken}
use Rattle.scr_reader.specs.Streams.{complete_messages, served_messages, messages_at_end}
use Rattle.scr_reader.specs.Streams.{is_broken_at_end}
use Rattle.session_desk.specs.declared.pending.Pending.{Pending}
use Rattle.session_desk.specs.declared.pending.InputEnd.{InputEnd}
use Rattle.session_desk.specs.declared.pending.InputEnd.TheVariants as ends
use Rattle.session_desk.specs.declared.pending.Progress.{Progress}
use Rattle.session_desk.specs.declared.pending.Progress.TheVariants.{More, Complete, TooLong}

abbrev pub ends_with_cr : List ℕ → Bool
ends_with_cr [] = false
ends_with_cr (b ∷ []) = b == 13
ends_with_cr (b ∷ c ∷ text) = ends_with_cr (c ∷ text)

-- the open line has a byte that is not blank, once this byte follows, which is no LF
abbrev pub fills_line : Pending → ℕ → Bool
fills_line p byte = p.full || (p.cr || not ((byte == 13) || is_blank byte))

-- how many bytes are kept of it then, but for a CR at its end
abbrev pub length_with : Pending → ℕ → ℕ
length_with p byte = if byte == 13 then length p.line.items else length p.line.items + 1

abbrev pub breaks_with : Pending → ℕ → Bool
breaks_with p byte = fills_line p byte
    && (nat_lt LONGEST_LINE (length_with p byte) || (p.count == MOST_MESSAGE_LINES))

-- where no byte comes any more
abbrev pub breaks_at_end : Pending → Bool
breaks_at_end p = (p.full || p.cr)
    && (nat_lt LONGEST_LINE (length p.line.items) || (p.count == MOST_MESSAGE_LINES))

abbrev pub is_under_way : Pending → Bool
is_under_way p = p.full || (p.cr || nat_lt 0 p.count)

-- nothing, or a text whose last line has its LF
abbrev pub HasLastLf : List ℕ → Type 0
HasLastLf text = (text ≡ []) ⊎ ((front : List ℕ) × (text ≡ front ++ 10 ∷ []))

-- The whole lines of the message that is under way are kept, and the first 201 bytes of its open
-- line: those of a line of blanks that goes on are of no use.
pub record IsHeld (p : Pending) (text : List ℕ) : Type 0 where
  pub lines : lines_of p.lines.items ≡ open_lines text
  pub whole : HasLastLf p.lines.items
  pub count : p.count ≡ length (open_lines text)
  pub line : p.line.items ≡ take 201 (open_bytes text)
  pub full : p.full ≡ not (is_blank_line (without_last_cr (open_bytes text)))
  pub cr : p.cr ≡ ends_with_cr (open_bytes text)
  pub within : is_broken text ≡ false

-- how much is kept: at most 1,000 lines of 200 bytes, each with a CR and an LF, and one more line
abbrev pub IsSized : Pending → Type 0
IsSized p = (p.count ≤ MOST_MESSAGE_LINES) × (length p.lines.items ≤ 202 * p.count)
    × (length p.line.items ≤ 201)

-- A message was ended by the last byte of the text: its lines are kept, and nothing of the next.
pub record IsEnded (p : Pending) (text : List ℕ) : Type 0 where
  pub lines_left : open_lines text ≡ []
  pub bytes_left : open_bytes text ≡ []
  pub line : p.line.items ≡ []
  pub full : p.full ≡ false
  pub cr : p.cr ≡ false
  pub within : is_broken text ≡ false

-- One more byte: nothing is complete, a message is, or a message breaks a limit.
abbrev pub MakesProgress : Pending → List ℕ → ℕ → Progress → Pending → Type 0
MakesProgress p text byte More q = IsHeld q (text ++ byte ∷ [])
    × (complete_messages (text ++ byte ∷ []) ≡ complete_messages text)
MakesProgress p text byte Complete q = IsEnded q (text ++ byte ∷ [])
    × (complete_messages (text ++ byte ∷ [])
    ≡ complete_messages text ++ lines_of q.lines.items ∷ [])
MakesProgress p text byte TooLong q = (is_broken (text ++ byte ∷ []) ≡ true)
    × (served_messages (text ++ byte ∷ []) ≡ complete_messages text)

-- how a text ends
abbrev pub EndsInput : List ℕ → InputEnd → Type 0
EndsInput text ends.Ended = (is_broken_at_end text ≡ false)
    × (messages_at_end text ≡ complete_messages text)
EndsInput text ends.Cut = (is_broken_at_end text ≡ false)
    × (messages_at_end text ≡ complete_messages text → ⊥)
EndsInput text ends.TooLong = is_broken_at_end text ≡ true
