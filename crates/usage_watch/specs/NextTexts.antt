-- The message of the next season's historic lines.
use Rattle.std.specs.Prelude.{◌≡◌, ℕ, ◌+◌, List, [], ◌∷◌}
use Rattle.season_days.specs.Term.{Term}
use Rattle.scr_reader.specs.declared.header.Header.{Header}
use Rattle.scr_reader.specs.declared.line.Line.{Line}
use Rattle.scr_reader.specs.declared.line.Item.TheVariants.{One}
use Rattle.scr_reader.specs.declared.line.Code.TheVariants.{F}
use Rattle.scr_reader.specs.declared.message.Placed.{Placed}
use Rattle.scr_reader.specs.declared.message.Message.{Message}
use Rattle.scr_reader.specs.Printed.{LineFits}
use Rattle.scr_reader.specs.Again.{messages_text}

-- a historic line that has a spelling in the season
pub record IsHistoric (season : Term) (line : Line) : Type 0 where
  pub fits : LineFits season line
  pub code : line.code ≡ F

-- each line alone, on the lines of the text from this number on
abbrev pub next_items : ℕ → List Line → List Placed
next_items number [] = []
next_items number (line ∷ lines) =
    record { line = number; item = One line } ∷ next_items (number + 1) lines

-- the message of the lines: the season stands on the second line of its text, and the items begin
-- on the fifth
abbrev pub next_message : Header → List Line → Message
next_message header lines = record {
  line = 2;
  season = header.season;
  day = header.day;
  month = header.month;
  airport = header.airport;
  items = next_items 5 lines;
}

-- one message, or none where there is no line
abbrev pub next_messages : Header → List Line → List Message
next_messages header [] = []
next_messages header (line ∷ lines) = next_message header (line ∷ lines) ∷ []

-- its text, with an empty line behind it
abbrev pub next_text : Header → List Line → List ℕ
next_text header lines = messages_text (next_messages header lines)
