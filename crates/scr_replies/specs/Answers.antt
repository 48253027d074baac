-- The text of replies: the lines of the answer to one line or pair, and the reply to a message. See
-- SSIM, chapter 6, on the codes: K confirms, U refuses, O offers, H holds, X cancels, and W says
-- that nothing was processed.
use Rattle.std.specs.Prelude.{ℕ, List, [], ◌∷◌, ◌++◌}
use Rattle.slot_text.specs.Ended.{ended}
use Rattle.season_days.specs.Term.{Term}
use Rattle.scr_reader.specs.Printed.{header_lines, line_text, flight_text}
use Rattle.scr_reader.specs.declared.header.Header.{Header}
use Rattle.scr_reader.specs.declared.line.Flight.{Flight}
use Rattle.scr_reader.specs.declared.line.Line.{Line}
use Rattle.scr_reader.specs.declared.line.Code.{Code}
use Rattle.scr_reader.specs.declared.line.Code.TheVariants.{K, H, O, U, W, X}

-- a line in its printed spelling with a code, and its end
abbrev pub coded_line : Term → Code → Line → List ℕ
coded_line season code line = line_text season code line ++ 10 ∷ []

-- ---- the answer to a line, or to a pair, whose request is its R or L line

-- the requested times are confirmed
abbrev pub confirmed_answer : Term → Line → List ℕ
confirmed_answer season request = coded_line season K request

-- no slots
abbrev pub refused_answer : Term → Line → List ℕ
refused_answer season request = coded_line season U request

-- other times are offered: the line at these
abbrev pub offer_answer : Term → Line → Line → List ℕ
offer_answer season request offered = coded_line season U request ++ coded_line season O offered

-- the historic line of a pair is held, as its C line asks
abbrev pub held_answer : Term → Line → Line → List ℕ
held_answer season request historic = coded_line season U request ++ coded_line season H historic

-- cancelled
abbrev pub cancelled_answer : Term → Line → List ℕ
cancelled_answer season request = coded_line season X request

-- not processed
abbrev pub unprocessed_answer : Term → Line → List ℕ
unprocessed_answer season request = coded_line season W request

-- a flight that was asked about has no holding
abbrev pub unknown_answer : Flight → List ℕ
unknown_answer flight = 87 ∷ (flight_text flight ++ 10 ∷ [])

-- ---- the reply to a message

-- the lines of its header, the answers to its items in their order, and one empty line
abbrev pub message_reply : Header → List ℕ → List ℕ
message_reply header answers = ended (header_lines header) ++ (answers ++ 10 ∷ [])
