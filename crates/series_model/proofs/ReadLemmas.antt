-- What messages have that were read: pairs that agree, and few lines and items.
use Rattle.std.proofs.Common.{◌≡◌, ℕ, suc, ◌+◌, ◌<◌, ◌≤◌, ◌^◌, ◌&&◌, Bool, true, false, cond, List, [], ◌∷◌, length, Some, None, sym, ap, subst, arith, inl, inr}
use Rattle.std.specs.Prelude.{Option, IsSomeAnd, All, ◌==◌}
use Rattle.std.specs.List.{sum_by}
use Rattle.std.proofs.lemmas.Bool.{cases_Bool}
use Rattle.std.proofs.lemmas.List.{length-drop}
use Rattle.std.proofs.lemmas.List.Sums.{sum_by-cons}
use Rattle.std.proofs.lemmas.List.Elements.{All-nil, All-cons}
use Rattle.slot_text.specs.Lines.{starts_with_lf, onto_first, lines_of}
use Rattle.season_days.specs.Term.{Term}
use Rattle.slot_text.specs.Fields.{is_blank_line}
use Rattle.scr_reader.specs.declared.line.Line.{Line}
use Rattle.scr_reader.specs.declared.line.Item.{Item}
use Rattle.scr_reader.specs.declared.line.Code.{Code}
use Rattle.scr_reader.specs.declared.line.Code.TheVariants.{N, B, F, C, R, L, D, A, Z, K, H, O, U, W, X}
use Rattle.scr_reader.specs.declared.message.Message.{Message}
use Rattle.scr_reader.specs.declared.message.Placed.{Placed}
use Rattle.scr_reader.specs.Rows.{Row, remark, entry, question, AreRows}
use Rattle.scr_reader.specs.Messages.{Run, next_row, pair_item, line_item, row_item, RowAsksChange, LineIsPaired, IsGoodRow, AreGood, place, items_of, has_address, header_length, body_of, begins_in_run, onto_run, runs_of, runs_in, IsMessage, AreMessages, ReadsAll}
use Rattle.series_model.specs.Submissions.{ItemPairs, PlacedPairs, MessagePairs, HasNumbers, item_count}

-- ---- pairs

abbrev MadePairs : Option Item → Type 0
MadePairs None = Unit {0}
MadePairs (Some item) = ItemPairs item

pair_made : (changed : Line) (row : Option Row) → IsSomeAnd row (RowAsksChange changed) → MadePairs (pair_item changed row)
pair_made changed None asks = absurd asks
pair_made changed (Some remark) asks = absurd asks
pair_made changed (Some (entry asked)) asks = asks
pair_made changed (Some (question flight)) asks = absurd asks

line_made : (code : Code) (line : Line) (before after : List (Option Row)) → LineIsPaired code line before after → MadePairs (line_item code line after)
line_made C line before after paired = pair_made line (next_row after) paired
line_made R line before after paired = tt
line_made L line before after paired = tt
line_made N line before after paired = tt
line_made B line before after paired = tt
line_made F line before after paired = tt
line_made D line before after paired = tt
line_made A line before after paired = tt
line_made Z line before after paired = tt
line_made K line before after paired = tt
line_made H line before after paired = tt
line_made O line before after paired = tt
line_made U line before after paired = tt
line_made W line before after paired = tt
line_made X line before after paired = tt

row_made : (text : List ℕ) (row : Option Row) (before after : List (Option Row)) → IsGoodRow text row before after → MadePairs (row_item row after)
row_made text None before after good = absurd good
row_made text (Some remark) before after good = tt
row_made text (Some (entry line)) before after good = line_made line.code line before after good.1
row_made text (Some (question flight)) before after good = tt

placed_made : (number : ℕ) (item : Option Item) (items : List Placed) → MadePairs item → All PlacedPairs items → All PlacedPairs (place number item items)
placed_made number None items made rest = rest
placed_made number (Some item) items made rest = All-cons PlacedPairs (record { line = number; item = item }) items made rest

items_made : (season : Term) (number : ℕ) (before : List (Option Row)) (lines : List (List ℕ)) (rows : List (Option Row)) → AreRows season lines rows → AreGood before lines rows → All PlacedPairs (items_of number rows)
unfolding items_of
items_made season number before [] [] are good = All-nil PlacedPairs
items_made season number before [] (row ∷ rows) are good = absurd are
items_made season number before (line ∷ lines) [] are good = absurd are
items_made season number before (line ∷ lines) (row ∷ rows) are good =
    placed_made number (row_item row rows) (items_of (number + 1) rows) (row_made line row before rows good.0) (items_made season (number + 1) (row ∷ before) lines rows are.1 good.1)

message_made : (run : Run) (message : Message) → IsMessage run message → MessagePairs message
message_made run message is =
    subst (All PlacedPairs) (sym is.items) (items_made message.season (run.number + header_length run.lines) [] (body_of run.lines) is.rows is.read is.good)

pairs_made : (runs : List Run) (messages : List Message) → AreMessages runs messages → All MessagePairs messages
pairs_made [] [] are = All-nil MessagePairs
pairs_made [] (m ∷ messages) are = absurd are
pairs_made (run ∷ runs) [] are = absurd are
pairs_made (run ∷ runs) (m ∷ messages) are = All-cons MessagePairs m messages (message_made run m are.0) (pairs_made runs messages are.1)

-- ---- items

place_few : (number : ℕ) (item : Option Item) (items : List Placed) → length (place number item items) ≤ length items + 1
place_few number None items = omega arith
place_few number (Some item) items = omega arith

items_few : (season : Term) (number : ℕ) (lines : List (List ℕ)) (rows : List (Option Row)) → AreRows season lines rows → length (items_of number rows) ≤ length lines
unfolding items_of
items_few season number [] [] are = omega arith
items_few season number [] (row ∷ rows) are = absurd are
items_few season number (line ∷ lines) [] are = absurd are
items_few season number (line ∷ lines) (row ∷ rows) are =
    omega (arith, place_few number (row_item row rows) (items_of (number + 1) rows), items_few season (number + 1) lines rows are.1)

message_few : (run : Run) (message : Message) → IsMessage run message → length message.items ≤ length run.lines
message_few run message is =
    let same : length message.items ≡ length (items_of (run.number + header_length run.lines) is.rows) = ap (λ (items : List Placed). length items) is.items in
    let few = items_few message.season (run.number + header_length run.lines) (body_of run.lines) is.rows is.read in
    let body = length-drop (header_length run.lines) run.lines in
    omega (arith, same, few, body)

abbrev run_lines : Run → ℕ
run_lines run = length run.lines

all_few : (runs : List Run) (messages : List Message) → AreMessages runs messages → item_count messages ≤ sum_by run_lines runs
all_few [] [] are = omega arith
all_few [] (m ∷ messages) are = absurd are
all_few (run ∷ runs) [] are = absurd are
all_few (run ∷ runs) (m ∷ messages) are =
    let one = sum_by-cons (λ (message : Message). length message.items) m messages in
    let two = sum_by-cons run_lines run runs in
    omega (arith, one, two, message_few run m are.0, all_few runs messages are.1)

-- ---- the lines of runs

onto_lines : (number : ℕ) (line : List ℕ) (runs : List Run) → sum_by run_lines (onto_run number line runs) ≤ sum_by run_lines runs + 1
onto_lines number line [] = let one = sum_by-cons run_lines (record { number = number; lines = line ∷ [] }) [] in omega (arith, one)
onto_lines number line (run ∷ runs) =
    let one = sum_by-cons run_lines (record { number = number; lines = line ∷ run.lines }) runs in
    let two = sum_by-cons run_lines run runs in
    omega (arith, one, two)

runs_few : (number : ℕ) (lines : List (List ℕ)) → sum_by run_lines (runs_of number lines) ≤ length lines
unfolding runs_of
runs_few number [] = omega arith
runs_few number (line ∷ lines) =
    let rest = runs_few (number + 1) lines in
    elim (cases_Bool (is_blank_line line)) [
      | inl empty ↦ rw empty (omega (arith, rest))
      | inr full ↦ elim (cases_Bool (begins_in_run lines)) [
        | inl goes_on ↦ rw (full, goes_on) (omega (arith, rest, onto_lines number line (runs_of (number + 1) lines)))
        | inr ends ↦ rw (full, ends) (let one = sum_by-cons run_lines (record { number = number; lines = line ∷ [] }) (runs_of (number + 1) lines) in omega (arith, one, rest))
      ]
    ]

-- ---- the numbers of runs

abbrev NumberFew : ℕ → Run → Type 0
NumberFew most run = run.number ≤ most

abbrev NumbersFew : ℕ → List Run → Type 0
NumbersFew most [] = Unit {0}
NumbersFew most (run ∷ runs) = (run.number ≤ most) × NumbersFew most runs

onto_number : (most number : ℕ) (line : List ℕ) (runs : List Run) → number ≤ most → NumbersFew most runs → NumbersFew most (onto_run number line runs)
onto_number most number line [] le few = (le, tt)
onto_number most number line (run ∷ runs) le few = (le, few.1)

numbers_few : (most number : ℕ) (lines : List (List ℕ)) → number + length lines ≤ most → NumbersFew most (runs_of number lines)
unfolding runs_of
numbers_few most number [] le = tt
numbers_few most number (line ∷ lines) le =
    let rest = numbers_few most (number + 1) lines (omega (arith, le)) in
    elim (cases_Bool (is_blank_line line)) [
      | inl empty ↦ rw empty rest
      | inr full ↦ elim (cases_Bool (begins_in_run lines)) [
        | inl goes_on ↦ rw (full, goes_on) (onto_number most number line (runs_of (number + 1) lines) (omega (arith, le)) rest)
        | inr ends ↦ rw (full, ends) (omega (arith, le), rest)
      ]
    ]

message_number : (most : ℕ) (run : Run) (message : Message) → run.number ≤ most → IsMessage run message → message.line ≤ most + 2
message_number most run message le is = omega (arith, le, is.line, place_few_lines (has_address run.lines))
  where
    place_few_lines : (b : Bool) → (cond b 2 1) ≤ 2
    place_few_lines true = omega arith
    place_few_lines false = omega arith

message_numbers : (most : ℕ) (runs : List Run) (messages : List Message) → most + 4 < 2 ^ 32 → NumbersFew most runs → AreMessages runs messages → All HasNumbers messages
message_numbers most [] [] fits few are = All-nil HasNumbers
message_numbers most [] (m ∷ messages) fits few are = absurd are
message_numbers most (run ∷ runs) [] fits few are = absurd are
message_numbers most (run ∷ runs) (m ∷ messages) fits few are =
    let le = message_number most run m few.0 are.0 in
    All-cons HasNumbers m messages (omega (arith, le, fits)) (message_numbers most runs messages fits few.1 are.1)

-- ---- a text has no more lines than bytes

onto_few : (b : ℕ) (texts : List (List ℕ)) (n : ℕ) → length texts ≤ n → length (onto_first b texts) ≤ suc n
onto_few b [] n few = omega arith
onto_few b (text ∷ texts) n few = omega (arith, few)

lines_few : (bytes : List ℕ) → length (lines_of bytes) ≤ length bytes
unfolding lines_of
lines_few [] = omega arith
lines_few (b ∷ bytes) =
    let rest = lines_few bytes in
    elim (cases_Bool (b == 10)) [
      | inl end ↦ rw end (omega (arith, rest))
      | inr other ↦
          elim (cases_Bool ((b == 13) && starts_with_lf bytes)) [
            | inl cr ↦ rw (other, cr) (omega (arith, rest))
            | inr byte ↦ rw (other, byte) (onto_few b (lines_of bytes) (length bytes) rest)
          ]
    ]

-- ---- all together

pub read_pairs : (bytes : List ℕ) (messages : List Message) → ReadsAll bytes messages → All MessagePairs messages
read_pairs bytes messages reads = pairs_made (runs_in bytes) messages reads

pub read_items : (bytes : List ℕ) (messages : List Message) → ReadsAll bytes messages → item_count messages ≤ length bytes
read_items bytes messages reads =
    omega (arith, all_few (runs_in bytes) messages reads, runs_few 1 (lines_of bytes), lines_few bytes)

pub read_numbers : (bytes : List ℕ) (messages : List Message) → length bytes < 2 ^ 31 → ReadsAll bytes messages → All HasNumbers messages
read_numbers bytes messages few reads =
    message_numbers (length bytes + 1) (runs_in bytes) messages (omega (arith, few)) (numbers_few (length bytes + 1) 1 (lines_of bytes) (omega (arith, lines_few bytes))) reads
