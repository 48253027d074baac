-- What is read of a message is what an airline can say: codes that it has, pairs, and a header in
-- its ranges.
use Rattle.std.proofs.Common.{◌≡◌, ◌≢◌, ◌∙◌, ℕ, ◌+◌, Bool, true, false, List, [], ◌∷◌, length, take, Option, Some, None, refl, sym, subst}
use Rattle.std.specs.Prelude.{◌==◌, ◌||◌, if◌then◌else◌, IsSomeAnd, slice_get, All}
use Rattle.std.proofs.lemmas.Option.{none-some, same_Some}
use Rattle.std.proofs.lemmas.List.Elements.{All-cons, All-nil}
use Rattle.season_days.specs.Term.{Term}
use Rattle.scr_reader.specs.declared.header.Header.{Header}
use Rattle.scr_reader.specs.declared.line.Line.{Line}
use Rattle.scr_reader.specs.declared.line.Stop.{Stop}
use Rattle.scr_reader.specs.declared.line.Item.{Item}
use Rattle.scr_reader.specs.declared.line.Item.TheVariants.{One}
use Rattle.scr_reader.specs.declared.line.Code.{Code}
use Rattle.scr_reader.specs.declared.line.Code.TheVariants.{N, B, F, C, R, L, D, A, Z, K, H, O, U, W, X}
use Rattle.scr_reader.specs.declared.message.Message.{Message}
use Rattle.scr_reader.specs.declared.message.Placed.{Placed}
use Rattle.scr_reader.specs.Parts.{code_of}
use Rattle.scr_reader.specs.Shapes.{Shape, arrival, departure, turnaround, Part, parts_of, shape_of, IsCodeAndFlight, IsCodeAlone, Agree, IsLine}
use Rattle.scr_reader.specs.Rows.{Row, remark, entry, question, line_fields, IsRow, IsRowOrNone, AreRows}
use Rattle.scr_reader.specs.Messages.{address, parts_from_season, has_address, header_parts, header_of, HeaderAgrees, RowAsksChange, LineIsPaired, next_row, IsGoodRow, AreGood, pair_item, line_item, row_item, place, items_of, body_of, Run, IsMessage, AreMessages, FirstIs, runs_in, ReadsMessage, ReadsAll}
use Rattle.scr_reader.specs.Printed.{IsAsked}
use Rattle.scr_reader.specs.Again.{IsAskedItem, AreAsked, HeaderFits, IsAirlineMessage}

-- ---- codes

asked_or : (t : Bool) (x : Code) (rest : Option Code) (code : Code) → IsAsked x → (rest ≡ Some code → IsAsked code) → (if t then Some x else rest) ≡ Some code → IsAsked code
asked_or true x rest code asked more e = subst (λ (c : Code). IsAsked c) (same_Some x code e) asked
asked_or false x rest code asked more e = more e

no_code : (code : Code) → None ≡ Some code → IsAsked code
no_code code e = absurd (none-some code e)

code_asked : (b : ℕ) (code : Code) → code_of b ≡ Some code → IsAsked code
code_asked b code e =
    asked_or ((b == 78) || (b == 89)) N _ code refl
    (asked_or ((b == 66) || (b == 86)) B _ code refl
    (asked_or (b == 70) F _ code refl
    (asked_or (b == 67) C _ code refl
    (asked_or ((b == 82) || (b == 73)) R _ code refl
    (asked_or (b == 76) L _ code refl
    (asked_or (b == 68) D _ code refl
    (asked_or (b == 65) A _ code refl
    (asked_or (b == 90) Z None code refl (no_code code)))))))))
    e

-- ---- lines

asked_behind : (text : List ℕ) (code : Code) (a : Option Stop) → IsSomeAnd a (λ stop. IsCodeAndFlight text code stop.flight) → IsAsked code
asked_behind text code None is = absurd is
asked_behind [] code (Some stop) is = absurd is
asked_behind (b ∷ text) code (Some stop) is = code_asked b code is.0

asked_alone : (text : List ℕ) (code : Code) → IsCodeAlone text code → IsAsked code
asked_alone [] code is = absurd is
asked_alone (b ∷ text) code is = code_asked b code is.0

parts_taken : (shape : Shape) → take (length (parts_of shape)) (parts_of shape) ≡ parts_of shape
parts_taken arrival = refl
parts_taken departure = refl
parts_taken turnaround = refl

all_said : (season : Term) (shape : Shape) (fields : List (List ℕ)) (line : Line) → Agree season (parts_of shape) fields line → IsAsked line.code
all_said season arrival [] line said = absurd said
all_said season arrival (text ∷ fields) line said = asked_behind text line.code line.arrival said.0
all_said season departure [] line said = absurd said
all_said season departure (text ∷ fields) line said = asked_alone text line.code said.0
all_said season turnaround [] line said = absurd said
all_said season turnaround (text ∷ fields) line said = asked_behind text line.code line.arrival said.0

line_asked : (season : Term) (fields : List (List ℕ)) (line : Line) → IsLine season fields line → IsAsked line.code
line_asked season fields line is = all_said season (shape_of fields) fields line (subst (λ (p : List Part). Agree season p fields line) (parts_taken (shape_of fields)) is.agrees.said)

pub entry_asked : (season : Term) (text : List ℕ) (line : Line) → IsRow season text (entry line) → IsAsked line.code
entry_asked season text line is = line_asked season (line_fields text) line is.1

-- ---- items

abbrev RowAsked : Option Row → Type 0
RowAsked None = Unit {0}
RowAsked (Some remark) = Unit {0}
RowAsked (Some (entry line)) = IsAsked line.code
RowAsked (Some (question flight)) = Unit {0}

row_asked : (season : Term) (text : List ℕ) (row : Option Row) → IsRowOrNone season text row → RowAsked row
row_asked season text None is = tt
row_asked season text (Some remark) is = tt
row_asked season text (Some (entry line)) is = entry_asked season text line is
row_asked season text (Some (question flight)) is = tt

abbrev MadeAsked : Option Item → Type 0
MadeAsked None = Unit {0}
MadeAsked (Some item) = IsAskedItem item

pair_asked : (changed : Line) (row : Option Row) → changed.code ≡ C → IsSomeAnd row (RowAsksChange changed) → MadeAsked (pair_item changed row)
pair_asked changed None is asks = absurd asks
pair_asked changed (Some remark) is asks = absurd asks
pair_asked changed (Some (entry asked)) is asks = (is, asks)
pair_asked changed (Some (question flight)) is asks = absurd asks

alone_asked : (line : Line) (code : Code) → line.code ≡ code → IsAsked line.code → code ≢ C → code ≢ R → code ≢ L → MadeAsked (Some (One line))
alone_asked line code is asked c r l = (asked, (λ e. c (sym is ∙ e)), (λ e. r (sym is ∙ e)), (λ e. l (sym is ∙ e)))

line_item_asked : (code : Code) (line : Line) (before after : List (Option Row)) → line.code ≡ code → IsAsked line.code → LineIsPaired code line before after → MadeAsked (line_item code line after)
line_item_asked C line before after is asked paired = pair_asked line (next_row after) is paired
line_item_asked R line before after is asked paired = tt
line_item_asked L line before after is asked paired = tt
line_item_asked N line before after is asked paired = alone_asked line N is asked (λ e. cc) (λ e. cc) (λ e. cc)
line_item_asked B line before after is asked paired = alone_asked line B is asked (λ e. cc) (λ e. cc) (λ e. cc)
line_item_asked F line before after is asked paired = alone_asked line F is asked (λ e. cc) (λ e. cc) (λ e. cc)
line_item_asked D line before after is asked paired = alone_asked line D is asked (λ e. cc) (λ e. cc) (λ e. cc)
line_item_asked A line before after is asked paired = alone_asked line A is asked (λ e. cc) (λ e. cc) (λ e. cc)
line_item_asked Z line before after is asked paired = alone_asked line Z is asked (λ e. cc) (λ e. cc) (λ e. cc)
line_item_asked K line before after is asked paired = alone_asked line K is asked (λ e. cc) (λ e. cc) (λ e. cc)
line_item_asked H line before after is asked paired = alone_asked line H is asked (λ e. cc) (λ e. cc) (λ e. cc)
line_item_asked O line before after is asked paired = alone_asked line O is asked (λ e. cc) (λ e. cc) (λ e. cc)
line_item_asked U line before after is asked paired = alone_asked line U is asked (λ e. cc) (λ e. cc) (λ e. cc)
line_item_asked W line before after is asked paired = alone_asked line W is asked (λ e. cc) (λ e. cc) (λ e. cc)
line_item_asked X line before after is asked paired = alone_asked line X is asked (λ e. cc) (λ e. cc) (λ e. cc)

row_item_asked : (text : List ℕ) (row : Option Row) (before after : List (Option Row)) → RowAsked row → IsGoodRow text row before after → MadeAsked (row_item row after)
row_item_asked text None before after asked good = tt
row_item_asked text (Some remark) before after asked good = tt
row_item_asked text (Some (entry line)) before after asked good = line_item_asked line.code line before after refl asked good.1
row_item_asked text (Some (question flight)) before after asked good = tt

place_asked : (number : ℕ) (item : Option Item) (items : List Placed) → MadeAsked item → AreAsked items → AreAsked (place number item items)
place_asked number None items made asked = asked
place_asked number (Some item) items made asked = (made, asked)

items_asked : (season : Term) (number : ℕ) (lines : List (List ℕ)) (before rows : List (Option Row)) → AreRows season lines rows → AreGood before lines rows → AreAsked (items_of number rows)
unfolding items_of
items_asked season number [] before [] are good = tt
items_asked season number [] before (row ∷ rows) are good = absurd are
items_asked season number (line ∷ lines) before [] are good = absurd are
items_asked season number (line ∷ lines) before (row ∷ rows) are good =
    place_asked number (row_item row rows) (items_of (number + 1) rows) (row_item_asked line row before rows (row_asked season line row are.0) good.0) (items_asked season (number + 1) lines (row ∷ before) rows are.1 good.1)

-- ---- headers

of_some : {R : Type 0} (o : Option (List ℕ)) (P : List ℕ → Type 0) → IsSomeAnd o P → ((text : List ℕ) → P text → R) → R
of_some {R} None P is f = absurd is
of_some {R} (Some text) P is f = f text is

names_fit : (place : ℕ) (lines : List (List ℕ)) (h : Header) → HeaderAgrees place parts_from_season lines h → HeaderFits h
names_fit place lines h is = record {
  season = of_some (slice_get lines place) _ is.0 (λ text said. said.1.0);
  date = of_some (slice_get lines (place + 1)) _ is.1.0 (λ text said. said.1.0);
  airport = of_some (slice_get lines (place + 1 + 1)) _ is.1.1.0 (λ text said. said.1.0);
}

by_address : (t : Bool) (lines : List (List ℕ)) (h : Header) → HeaderAgrees 1 (if t then address ∷ parts_from_season else parts_from_season) lines h → HeaderFits h
by_address true lines h is = names_fit 2 lines h is.1
by_address false lines h is = names_fit 1 lines h is

header_fits : (lines : List (List ℕ)) (h : Header) → HeaderAgrees 0 (header_parts lines) lines h → HeaderFits h
header_fits lines h is = by_address (has_address lines) lines h is.1

-- ---- messages

message_asked : (run : Run) (message : Message) → IsMessage run message → IsAirlineMessage message
message_asked run message is = record {
  header = header_fits run.lines (header_of message) is.header;
  items = rw is.items (items_asked message.season _ (body_of run.lines) [] is.rows is.read is.good);
}

messages_asked : (runs : List Run) (messages : List Message) → AreMessages runs messages → All IsAirlineMessage messages
messages_asked [] [] are = All-nil IsAirlineMessage
messages_asked [] (m ∷ messages) are = absurd are
messages_asked (run ∷ runs) [] are = absurd are
messages_asked (run ∷ runs) (m ∷ messages) are = All-cons IsAirlineMessage m messages (message_asked run m are.0) (messages_asked runs messages are.1)

first_asked : (runs : List Run) (message : Message) → FirstIs runs message → IsAirlineMessage message
first_asked [] message is = absurd is
first_asked (run ∷ runs) message is = message_asked run message is

pub all_read_asked : (bytes : List ℕ) (messages : List Message) → ReadsAll bytes messages → All IsAirlineMessage messages
all_read_asked bytes messages reads = messages_asked (runs_in bytes) messages reads

pub one_read_asked : (bytes : List ℕ) (message : Message) → ReadsMessage bytes message → IsAirlineMessage message
one_read_asked bytes message reads = first_asked (runs_in bytes) message reads
