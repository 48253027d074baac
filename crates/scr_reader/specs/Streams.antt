-- Messages that come in pieces of any size: those that an empty line has ended, and the one that is
-- under way.
use Rattle.std.specs.Prelude.{◌≡◌, ◌≢◌, ℕ, ◌≤◌, Bool, false, ◌==◌, ◌||◌, nat_lt, if◌then◌else◌, List, [], ◌∷◌, ◌++◌, length, slice_range}
use Rattle.slot_text.specs.Lines.{lines_of}
use Rattle.slot_text.specs.Fields.{is_blank_line}
use Rattle.slot_text.specs.declared.lines.TheConstants.{LONGEST_LINE}
use Rattle.scr_reader.specs.Cuts.{some_passes, up_to_last, after_last}
use Rattle.scr_reader.specs.Messages.{Run, begins_in_run}
use Rattle.scr_reader.specs.declared.message.Piece.{Piece}
use Rattle.scr_reader.specs.declared.message.TheConstants.{MOST_MESSAGE_LINES}

-- ---- the lines of messages

-- lines of one message: some, and none of them empty
pub record AreOfMessage (lines : List (List ℕ)) : Type 0 where
  pub some : lines ≢ []
  pub full : some_passes is_blank_line lines ≡ false

abbrev pub onto_message : List ℕ → List (List (List ℕ)) → List (List (List ℕ))
onto_message line [] = (line ∷ []) ∷ []
onto_message line (message ∷ messages) = (line ∷ message) ∷ messages

-- the lines of each message: the longest runs of lines that are not empty, without their numbers
unfoldable pub messages_in : List (List ℕ) → List (List (List ℕ))
messages_in [] = []
messages_in (line ∷ lines) =
    if is_blank_line line then messages_in lines
    else (if begins_in_run lines then onto_message line (messages_in lines)
    else (line ∷ []) ∷ messages_in lines)

abbrev pub run_lines : Run → List (List ℕ)
run_lines run = run.lines

-- the lines of a piece of a text
abbrev pub piece_lines : List ℕ → Piece → List (List ℕ)
piece_lines bytes piece = lines_of (slice_range bytes piece.from piece.to)

-- a piece lies within the text, and its lines are those of one message
pub record HoldsMessage (bytes : List ℕ) (piece : Piece) : Type 0 where
  pub ordered : piece.from ≤ piece.to
  pub within : piece.to ≤ length bytes
  pub lines : AreOfMessage (piece_lines bytes piece)

-- ---- where no byte comes any more, as in a file

-- the messages, with the one that no empty line has ended
abbrev pub messages_at_end : List ℕ → List (List (List ℕ))
messages_at_end text = messages_in (lines_of text)

-- ---- what has come so far

abbrev pub is_lf : ℕ → Bool
is_lf b = b == 10

-- the lines that have their end, and the bytes of the line that is under way
abbrev pub whole_lines : List ℕ → List (List ℕ)
whole_lines text = lines_of (up_to_last is_lf text)

abbrev pub open_bytes : List ℕ → List ℕ
open_bytes text = after_last is_lf text

-- the messages that an empty line has ended
abbrev pub complete_messages : List ℕ → List (List (List ℕ))
complete_messages text = messages_in (up_to_last is_blank_line (whole_lines text))

-- the whole lines of the message that is under way
abbrev pub open_lines : List ℕ → List (List ℕ)
open_lines text = after_last is_blank_line (whole_lines text)

-- A CR at the end may be the beginning of a line's end. It is a byte of its line only once another
-- byte than LF follows it, or no byte comes any more.
unfoldable pub without_last_cr : List ℕ → List ℕ
without_last_cr [] = []
without_last_cr (b ∷ []) = if b == 13 then [] else b ∷ []
without_last_cr (b ∷ c ∷ text) = b ∷ without_last_cr (c ∷ text)

-- all messages, with the one that is under way, as far as its bytes have come
abbrev pub messages_so_far : List ℕ → List (List (List ℕ))
messages_so_far text = messages_in (lines_of (without_last_cr text))

-- the message of these lines, or none
abbrev pub one_message : List (List ℕ) → List (List (List ℕ))
one_message [] = []
one_message (line ∷ lines) = (line ∷ lines) ∷ []

-- The message under way, if there is one: its whole lines, and the line that is under way. That one
-- belongs to it once it has a byte that is not blank.
abbrev pub message_under_way : List (List ℕ) → List ℕ → List (List (List ℕ))
message_under_way lines line =
    one_message (if is_blank_line line then lines else lines ++ line ∷ [])

-- ---- limits

abbrev pub is_too_long : List ℕ → Bool
is_too_long line = nat_lt LONGEST_LINE (length line)

-- a line of the message is too long, or there are too many
abbrev pub breaks_limit : List (List ℕ) → Bool
breaks_limit message = some_passes is_too_long message || nat_lt MOST_MESSAGE_LINES (length message)

-- the messages before the first that breaks a limit
unfoldable pub before_break : List (List (List ℕ)) → List (List (List ℕ))
before_break [] = []
before_break (message ∷ messages) =
    if breaks_limit message then [] else message ∷ before_break messages

-- the messages that are answered
abbrev pub served_messages : List ℕ → List (List (List ℕ))
served_messages text = before_break (complete_messages text)

-- some message has broken a limit
abbrev pub is_broken : List ℕ → Bool
is_broken text = some_passes breaks_limit (messages_so_far text)

abbrev pub is_broken_at_end : List ℕ → Bool
is_broken_at_end text = some_passes breaks_limit (messages_at_end text)
