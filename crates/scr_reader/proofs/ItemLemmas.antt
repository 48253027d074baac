-- The items of messages that are read have a printed spelling.
use Rattle.std.proofs.Common.{ℕ, ◌+◌, List, [], ◌∷◌, Some, None}
use Rattle.std.specs.Prelude.{Option}
use Rattle.season_days.specs.Term.{Term}
use Rattle.scr_reader.specs.declared.line.Line.{Line}
use Rattle.scr_reader.specs.declared.line.Flight.{Flight}
use Rattle.scr_reader.specs.declared.line.Item.{Item}
use Rattle.scr_reader.specs.declared.line.Code.{Code}
use Rattle.scr_reader.specs.declared.line.Code.TheVariants.{N, B, F, C, R, L, D, A, Z, K, H, O, U, W, X}
use Rattle.scr_reader.specs.declared.message.Message.{Message}
use Rattle.scr_reader.specs.declared.message.Placed.{Placed}
use Rattle.scr_reader.specs.Rows.{Row, remark, entry, question, line_fields, IsRowOrNone, AreRows, IsQuestion, IsAskedFlight}
use Rattle.scr_reader.specs.Messages.{Run, next_row, pair_item, line_item, row_item, place, items_of, IsMessage, body_of, AreMessages, FirstIs, runs_in, ReadsMessage, ReadsAll}
use Rattle.scr_reader.specs.Printed.{LineFits, FlightFits, ItemFits, ItemsFit, MessagesFit}
use Rattle.scr_reader.proofs.FitsLemmas.{read_fits, flight_fits}

abbrev RowFits : Term → Option Row → Type 0
RowFits season None = Unit {0}
RowFits season (Some remark) = Unit {0}
RowFits season (Some (entry line)) = LineFits season line
RowFits season (Some (question flight)) = FlightFits flight

abbrev RowsFit : Term → List (Option Row) → Type 0
RowsFit season [] = Unit {0}
RowsFit season (row ∷ rows) = RowFits season row × RowsFit season rows

asked_fits : (text : List ℕ) (flight : Flight) → IsAskedFlight text flight → FlightFits flight
asked_fits [] flight is = absurd is
asked_fits (b ∷ text) flight is = flight_fits text flight is.1

pub question_fits : (fields : List (List ℕ)) (flight : Flight) → IsQuestion fields flight → FlightFits flight
question_fits [] flight is = absurd is
question_fits (first ∷ rest) flight is = asked_fits first flight is.0

row_fits : (season : Term) (line : List ℕ) (row : Option Row) → IsRowOrNone season line row → RowFits season row
row_fits season line None is = tt
row_fits season line (Some remark) is = tt
row_fits season line (Some (entry value)) is = read_fits season line value is
row_fits season line (Some (question flight)) is = question_fits (line_fields line) flight is.1

rows_fit : (season : Term) (lines : List (List ℕ)) (rows : List (Option Row)) → AreRows season lines rows → RowsFit season rows
rows_fit season [] [] are = tt
rows_fit season [] (row ∷ rows) are = absurd are
rows_fit season (line ∷ lines) [] are = absurd are
rows_fit season (line ∷ lines) (row ∷ rows) are = (row_fits season line row are.0, rows_fit season lines rows are.1)

next_fits : (season : Term) (rows : List (Option Row)) → RowsFit season rows → RowFits season (next_row rows)
next_fits season [] fit = tt
next_fits season (None ∷ rows) fit = tt
next_fits season (Some remark ∷ rows) fit = next_fits season rows fit.1
next_fits season (Some (entry line) ∷ rows) fit = fit.0
next_fits season (Some (question flight) ∷ rows) fit = fit.0

abbrev MadeFits : Term → Option Item → Type 0
MadeFits season None = Unit {0}
MadeFits season (Some item) = ItemFits season item

pair_fits : (season : Term) (changed : Line) (row : Option Row) → LineFits season changed → RowFits season row → MadeFits season (pair_item changed row)
pair_fits season changed None fits fit = tt
pair_fits season changed (Some remark) fits fit = tt
pair_fits season changed (Some (entry asked)) fits fit = (fits, fit)
pair_fits season changed (Some (question flight)) fits fit = tt

line_item_fits : (season : Term) (code : Code) (line : Line) (after : List (Option Row)) → LineFits season line → RowsFit season after → MadeFits season (line_item code line after)
line_item_fits season C line after fits fit = pair_fits season line (next_row after) fits (next_fits season after fit)
line_item_fits season R line after fits fit = tt
line_item_fits season L line after fits fit = tt
line_item_fits season N line after fits fit = fits
line_item_fits season B line after fits fit = fits
line_item_fits season F line after fits fit = fits
line_item_fits season D line after fits fit = fits
line_item_fits season A line after fits fit = fits
line_item_fits season Z line after fits fit = fits
line_item_fits season K line after fits fit = fits
line_item_fits season H line after fits fit = fits
line_item_fits season O line after fits fit = fits
line_item_fits season U line after fits fit = fits
line_item_fits season W line after fits fit = fits
line_item_fits season X line after fits fit = fits

row_item_fits : (season : Term) (row : Option Row) (after : List (Option Row)) → RowFits season row → RowsFit season after → MadeFits season (row_item row after)
row_item_fits season None after fits fit = tt
row_item_fits season (Some remark) after fits fit = tt
row_item_fits season (Some (entry line)) after fits fit = line_item_fits season line.code line after fits fit
row_item_fits season (Some (question flight)) after fits fit = fits

place_fits : (season : Term) (number : ℕ) (item : Option Item) (items : List Placed) → MadeFits season item → ItemsFit season items → ItemsFit season (place number item items)
place_fits season number None items made fit = fit
place_fits season number (Some item) items made fit = (made, fit)

items_fit : (season : Term) (number : ℕ) (rows : List (Option Row)) → RowsFit season rows → ItemsFit season (items_of number rows)
unfolding items_of
items_fit season number [] fit = tt
items_fit season number (row ∷ rows) fit = place_fits season number (row_item row rows) (items_of (number + 1) rows) (row_item_fits season row rows fit.0 fit.1) (items_fit season (number + 1) rows fit.1)

message_fits : (run : Run) (message : Message) → IsMessage run message → ItemsFit message.season message.items
message_fits run message is = rw is.items (items_fit message.season _ is.rows (rows_fit message.season (body_of run.lines) is.rows is.read))

messages_fit : (runs : List Run) (messages : List Message) → AreMessages runs messages → MessagesFit messages
messages_fit [] [] are = tt
messages_fit [] (m ∷ messages) are = absurd are
messages_fit (run ∷ runs) [] are = absurd are
messages_fit (run ∷ runs) (m ∷ messages) are = (message_fits run m are.0, messages_fit runs messages are.1)

first_fits : (runs : List Run) (message : Message) → FirstIs runs message → ItemsFit message.season message.items
first_fits [] message is = absurd is
first_fits (run ∷ runs) message is = message_fits run message is

pub all_read_fit : (bytes : List ℕ) (messages : List Message) → ReadsAll bytes messages → MessagesFit messages
all_read_fit bytes messages reads = messages_fit (runs_in bytes) messages reads

pub one_read_fits : (bytes : List ℕ) (message : Message) → ReadsMessage bytes message → ItemsFit message.season message.items
one_read_fits bytes message reads = first_fits (runs_in bytes) message reads
