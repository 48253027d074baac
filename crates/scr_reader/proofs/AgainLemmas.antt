-- A printed message is read again.
use Rattle.std.proofs.Common.{◌≡◌, ◌≢◌, ◌⊎◌, ℕ, suc, ◌+◌, ◌<◌, ◌≤◌, true, false, List, [], ◌∷◌, ◌++◌, length, append_assoc, take, drop, Option, Some, None, codes, refl, sym, ap, subst, ◌∙◌, arith, inl, inr}
use Rattle.std.specs.Prelude.{◌==◌}
use Rattle.std.proofs.lemmas.List.{take_at, drop_at, append-nil}
use Rattle.slot_text.specs.Lines.{lines_of}
use Rattle.slot_text.specs.Ended.{ended}
use Rattle.season_days.specs.Term.{Term}
use Rattle.season_days.specs.Seasons.{season_text, half_letter}
use Rattle.season_days.specs.declared.season.Half.{Half}
use Rattle.season_days.specs.declared.season.Half.TheVariants.{Summer, Winter}
use Rattle.slot_text.specs.Fields.{is_blank_line}
use Rattle.scr_reader.specs.Parts.{date_text}
use Rattle.scr_reader.specs.Rows.{Row, entry, question, trimmed, IsRow, AreRows}
use Rattle.scr_reader.specs.Messages.{AsksChange, HeaderPart, title, parts_from_season, header_parts, header_of, body_of, HeaderAgrees, LineIsPaired, AreGood, line_item, items_of, Run, run_from, runs_of, front_length, IsMessage, AreMessages, runs_in, FirstIs, ReadsAll, ReadsMessage}
use Rattle.scr_reader.specs.Printed.{line_text, flight_text, item_lines, items_lines, message_lines, message_text, IsAsked, LineFits, ItemFits, ItemsFit}
use Rattle.scr_reader.specs.Again.{IsAskedItem, AreAsked, line_count, AreNumbered, IsReadAgain, messages_text, AreReadAgain}
use Rattle.scr_reader.specs.declared.line.Line.{Line}
use Rattle.scr_reader.specs.declared.line.Code.{Code}
use Rattle.scr_reader.specs.declared.line.Code.TheVariants.{N, B, F, C, R, L, D, A, Z, K, H, O, U, W, X}
use Rattle.scr_reader.specs.declared.line.Item.{Item}
use Rattle.scr_reader.specs.declared.line.Item.TheVariants.{One, Pair, Query}
use Rattle.scr_reader.specs.declared.message.Placed.{Placed}
use Rattle.scr_reader.specs.declared.message.Message.{Message}
use Rattle.scr_reader.proofs.CleanLemmas.{Clean, clean_flight, clean_date, clean_station, date_long}
use Rattle.scr_reader.proofs.PrintLemmas.{NamedDays, printed_back, printed_question}
use Rattle.scr_reader.proofs.LineLemmas.{IsFullLine, full_line, clean_is_line}
use Rattle.scr_reader.proofs.RunLemmas.{front_none, front_full, front_empty, runs_cons, runs_skip}
use Rattle.scr_reader.proofs.OncePartLemmas.{three_long}

-- ---- the lines of the text

abbrev pub AllFull : List (List ℕ) → Type 0
AllFull [] = Unit {0}
AllFull (line ∷ lines) = IsFullLine line × AllFull lines

pub lines_again : (lines : List (List ℕ)) (rest : List ℕ) → AllFull lines → lines_of (ended lines ++ rest) ≡ lines ++ lines_of rest
lines_again [] rest all = refl
lines_again (line ∷ lines) rest all =
    ap lines_of (append_assoc line (10 ∷ ended lines) rest) ∙ all.0.0 (ended lines ++ rest) ∙ ap (λ (l : List (List ℕ)). line ∷ l) (lines_again lines rest all.1)

front_all : (lines more : List (List ℕ)) → AllFull lines → front_length more ≡ 0 → front_length (lines ++ more) ≡ length lines
front_all [] more all none = none
front_all (line ∷ lines) more all none = front_full line (lines ++ more) all.0.1 ∙ ap (λ (n : ℕ). suc n) (front_all lines more all.1 none)

one_run : (n : ℕ) (line : List ℕ) (lines more : List (List ℕ)) → AllFull (line ∷ lines) → front_length more ≡ 0 → runs_of n ((line ∷ lines) ++ more) ≡ run_from n (line ∷ lines) ∷ runs_of (n + length (line ∷ lines)) more
one_run n line lines more all none =
    let run = line ∷ lines in
    let whole = run ++ more in
    let count : front_length whole ≡ length run = front_all run more all none in
    let taken : take (front_length whole) whole ≡ run = ap (λ (k : ℕ). take k whole) count ∙ take_at run more (length run) refl in
    let left : drop (front_length whole) whole ≡ more = ap (λ (k : ℕ). drop k whole) count ∙ drop_at run more (length run) refl in
    runs_cons n line (lines ++ more) all.0.1
    ∙ ap (λ (l : List (List ℕ)). run_from n l ∷ runs_of (n + front_length whole) (drop (front_length whole) whole)) taken
    ∙ ap (λ (l : List (List ℕ)). run_from n run ∷ runs_of (n + front_length whole) l) left
    ∙ ap (λ (k : ℕ). run_from n run ∷ runs_of (n + k) more) count

runs_none : (n : ℕ) → runs_of n [] ≡ []
unfolding runs_of
runs_none n = refl

-- ---- the header

trimmed_clean : (text : List ℕ) → Clean text → trimmed text ≡ text
unfolding trimmed
trimmed_clean [] clean = refl
trimmed_clean (b ∷ text) clean = rw ((clean_is_line b text clean).1) (ap (λ (t : List ℕ). b ∷ t) (trimmed_clean text clean.1))

no_slash : (half : Half) → (half_letter half == 47) ≡ false
no_slash Summer = refl
no_slash Winter = refl

half_above : (half : Half) → 33 ≤ half_letter half
half_above Summer = omega arith
half_above Winter = omega arith

clean_season : (season : Term) → Clean (season_text season)
clean_season season = (half_above season.half, (omega arith, (omega arith, tt)))

clean_title : Clean (codes "SCR")
clean_title = (omega arith, (omega arith, (omega arith, tt)))

parts_printed : (message : Message) → header_parts (message_lines message) ≡ title ∷ parts_from_season
parts_printed message = rw (no_slash message.season.half) refl

header_printed : (number : ℕ) (message : Message) → IsReadAgain number message → HeaderAgrees 0 (header_parts (message_lines message)) (message_lines message) (header_of message)
header_printed number message is =
    let lines = message_lines message in
    let date = date_text message.month message.day in
    let short : length date ≤ 200 = omega (arith, date_long message.month message.day is.date.month_from is.date.month_to) in
    let letters : length message.airport.0 ≤ 200 = omega (arith, three_long message.airport is.airport) in
    subst (λ (p : List HeaderPart). HeaderAgrees 0 p lines (header_of message)) (sym (parts_printed message)) (
      (omega arith, trimmed_clean (codes "SCR") clean_title),
      (
        (omega arith, (is.season, trimmed_clean (season_text message.season) (clean_season message.season))),
        (
          (short, (is.date, trimmed_clean date (clean_date message.month message.day))),
          ((letters, (is.airport, trimmed_clean message.airport.0 (clean_station message.airport.0 is.airport))), tt),
        ),
      ),
    )

-- ---- the rows of an item

abbrev item_rows : Item → List (Option Row)
item_rows (One line) = Some (entry line) ∷ []
item_rows (Pair changed asked) = Some (entry changed) ∷ Some (entry asked) ∷ []
item_rows (Query flight) = Some (question flight) ∷ []

abbrev items_rows : List Placed → List (Option Row)
items_rows [] = []
items_rows (placed ∷ items) = item_rows placed.item ++ items_rows items

pub line_row : (season : Term) (line : Line) → NamedDays season → IsAsked line.code → LineFits season line → IsRow season (line_text season line.code line) (entry line)
line_row season line law asked fits = printed_back season line.code line law asked fits

pub asked_change : (code : Code) → code ≡ C → IsAsked code
asked_change code is = rw is refl

pub asked_request : (code : Code) → (code ≡ R) ⊎ (code ≡ L) → IsAsked code
asked_request code (inl is) = rw is refl
asked_request code (inr is) = rw is refl

rows_of_item : (season : Term) (item : Item) (lines : List (List ℕ)) (rows : List (Option Row)) → NamedDays season → ItemFits season item → IsAskedItem item → AreRows season lines rows → AreRows season (item_lines season item ++ lines) (item_rows item ++ rows)
rows_of_item season (One line) lines rows law fits asked rest = (line_row season line law asked.0 fits, rest)
rows_of_item season (Pair changed asker) lines rows law fits asked rest =
    (line_row season changed law (asked_change changed.code asked.0) fits.0, (line_row season asker law (asked_request asker.code asked.1.request) fits.1, rest))
rows_of_item season (Query flight) lines rows law fits asked rest = (printed_question season flight fits, rest)

rows_again : (season : Term) (items : List Placed) → NamedDays season → ItemsFit season items → AreAsked items → AreRows season (items_lines season items) (items_rows items)
rows_again season [] law fit asked = tt
rows_again season (placed ∷ items) law fit asked =
    rows_of_item season placed.item (items_lines season items) (items_rows items) law fit.0 asked.0 (rows_again season items law fit.1 asked.1)

-- ---- pairs

alone : (code : Code) (line : Line) (before after : List (Option Row)) → code ≢ C → code ≢ R → code ≢ L → LineIsPaired code line before after × (line_item code line after ≡ Some (One line))
alone N line before after c r l = (tt, refl)
alone B line before after c r l = (tt, refl)
alone F line before after c r l = (tt, refl)
alone C line before after c r l = absurd (c refl)
alone R line before after c r l = absurd (r refl)
alone L line before after c r l = absurd (l refl)
alone D line before after c r l = (tt, refl)
alone A line before after c r l = (tt, refl)
alone Z line before after c r l = (tt, refl)
alone K line before after c r l = (tt, refl)
alone H line before after c r l = (tt, refl)
alone O line before after c r l = (tt, refl)
alone U line before after c r l = (tt, refl)
alone W line before after c r l = (tt, refl)
alone X line before after c r l = (tt, refl)

change_paired : (code : Code) (changed asker : Line) (before rows : List (Option Row)) → code ≡ C → AsksChange changed asker → LineIsPaired code changed before (Some (entry asker) ∷ rows)
change_paired code changed asker before rows is asks = rw is asks

request_paired : (code : Code) (changed asker : Line) (before rows : List (Option Row)) → (code ≡ R) ⊎ (code ≡ L) → changed.code ≡ C → LineIsPaired code asker (Some (entry changed) ∷ before) rows
request_paired code changed asker before rows (inl is) change = rw is change
request_paired code changed asker before rows (inr is) change = rw is change

good_item : (season : Term) (item : Item) (before : List (Option Row)) (lines : List (List ℕ)) (rows : List (Option Row)) → NamedDays season → ItemFits season item → IsAskedItem item → ((b : List (Option Row)) → AreGood b lines rows)
    → AreGood before (item_lines season item ++ lines) (item_rows item ++ rows)
good_item season (One line) before lines rows law fits asked rest =
    let row = line_row season line law asked.0 fits in
    ((row.0.short, (alone line.code line before rows asked.1 asked.2 asked.3).0), rest (Some (entry line) ∷ before))
good_item season (Pair changed asker) before lines rows law fits asked rest =
    let one = line_row season changed law (asked_change changed.code asked.0) fits.0 in
    let two = line_row season asker law (asked_request asker.code asked.1.request) fits.1 in (
      (one.0.short, change_paired changed.code changed asker before rows asked.0 asked.1),
      ((two.0.short, request_paired asker.code changed asker before rows asked.1.request asked.0), rest (Some (entry asker) ∷ Some (entry changed) ∷ before)),
    )
good_item season (Query flight) before lines rows law fits asked rest = (((printed_question season flight fits).0.short, tt), rest (Some (question flight) ∷ before))

good_again : (season : Term) (items : List Placed) (before : List (Option Row)) → NamedDays season → ItemsFit season items → AreAsked items → AreGood before (items_lines season items) (items_rows items)
good_again season [] before law fit asked = tt
good_again season (placed ∷ items) before law fit asked =
    good_item season placed.item before (items_lines season items) (items_rows items) law fit.0 asked.0 (λ b. good_again season items b law fit.1 asked.1)

-- ---- items

abbrev placed_at : ℕ → Item → Placed
placed_at number item = record { line = number; item = item }

-- the change makes the pair, and the line that asks for it makes nothing
pair_item_of : (code : Code) (changed asker : Line) (rows : List (Option Row)) → code ≡ C → line_item code changed (Some (entry asker) ∷ rows) ≡ Some (Pair changed asker)
pair_item_of code changed asker rows is = rw is refl

request_item : (code : Code) (line : Line) (after : List (Option Row)) → (code ≡ R) ⊎ (code ≡ L) → line_item code line after ≡ None
request_item code line after (inl is) = rw is refl
request_item code line after (inr is) = rw is refl

item_again : (number : ℕ) (item : Item) (rows : List (Option Row)) → IsAskedItem item → items_of number (item_rows item ++ rows) ≡ placed_at number item ∷ items_of (number + line_count item) rows
unfolding items_of
item_again number (One line) rows asked = rw ((alone line.code line [] rows asked.1 asked.2 asked.3).1) refl
item_again number (Pair changed asker) rows asked =
    let next : number + 1 + 1 ≡ number + 2 = omega arith in
    rw (pair_item_of changed.code changed asker rows asked.0, request_item asker.code asker rows asked.1.request) (ap (λ (n : ℕ). placed_at number (Pair changed asker) ∷ items_of n rows) next)
item_again number (Query flight) rows asked = refl

items_again : (number : ℕ) (items : List Placed) → AreNumbered number items → AreAsked items → items_of number (items_rows items) ≡ items
unfolding items_of
items_again number [] numbered asked = refl
items_again number (placed ∷ items) numbered asked =
    let rest : items_of (number + line_count placed.item) (items_rows items) ≡ items = items_again (number + line_count placed.item) items numbered.1 asked.1 in
    let here : placed_at number placed.item ≡ placed = ap (λ (n : ℕ). placed_at n placed.item) (sym numbered.0) in
    item_again number placed.item (items_rows items) asked.0 ∙ ap (λ (l : List Placed). placed_at number placed.item ∷ l) rest ∙ ap (λ (p : Placed). p ∷ items) here

-- ---- the text

full_item : (season : Term) (item : Item) (lines : List (List ℕ)) → ItemFits season item → AllFull lines → AllFull (item_lines season item ++ lines)
full_item season (One line) lines fits rest = (full_line season line.code line fits, rest)
full_item season (Pair changed asker) lines fits rest = (full_line season changed.code changed fits.0, (full_line season asker.code asker fits.1, rest))
full_item season (Query flight) lines fits rest = (clean_is_line 81 (flight_text flight) (omega arith, clean_flight flight fits), rest)

full_items : (season : Term) (items : List Placed) → ItemsFit season items → AllFull (items_lines season items)
full_items season [] fit = tt
full_items season (placed ∷ items) fit = full_item season placed.item (items_lines season items) fit.0 (full_items season items fit.1)

-- a clean text with bytes is a line, and not an empty one
clean_full : (text : List ℕ) → Clean text → 1 ≤ length text → IsFullLine text
clean_full [] clean some = absurd (omega (arith, some))
clean_full (b ∷ text) clean some = clean_is_line b text clean

-- the lines below the first
abbrev below_title : Message → List (List ℕ)
below_title message = season_text message.season ∷ date_text message.month message.day ∷ message.airport.0 ∷ items_lines message.season message.items

full_message : (number : ℕ) (message : Message) → IsReadAgain number message → AllFull (message_lines message)
full_message number message is =
    let date : 1 ≤ length (date_text message.month message.day) = omega (arith, date_long message.month message.day is.date.month_from is.date.month_to) in
    let letters : 1 ≤ length message.airport.0 = omega (arith, three_long message.airport is.airport) in (
      clean_full (codes "SCR") clean_title (omega arith),
      (
        clean_full (season_text message.season) (clean_season message.season) (omega arith),
        (
          clean_full (date_text message.month message.day) (clean_date message.month message.day) date,
          (clean_full message.airport.0 (clean_station message.airport.0 is.airport) letters, full_items message.season message.items is.fit),
        ),
      ),
    )

is_message : (number : ℕ) (message : Message) → NamedDays message.season → IsReadAgain number message → IsMessage (run_from number (message_lines message)) message
is_message number message law is =
    let lines = message_lines message in
    let season = message.season in
    let rows = items_rows message.items in
    let parts = parts_printed message in
    let body : body_of lines ≡ items_lines season message.items = ap (λ (p : List HeaderPart). drop (length p) lines) parts in
    record {
      rows = rows;
      line = rw (no_slash season.half) (is.line);
      header = header_printed number message is;
      read = subst (λ (l : List (List ℕ)). AreRows season l rows) (sym body) (rows_again season message.items law is.fit is.asked);
      good = subst (λ (l : List (List ℕ)). AreGood [] l rows) (sym body) (good_again season message.items [] law is.fit is.asked);
      items = sym (ap (λ (p : List HeaderPart). items_of (number + length p) rows) parts ∙ items_again (number + 4) message.items is.numbered is.asked);
    }

-- the text of a message makes one run, where no line or an empty one follows
run_again : (number : ℕ) (message : Message) (rest : List ℕ) → IsReadAgain number message → front_length (lines_of rest) ≡ 0
    → runs_of number (lines_of (message_text message ++ rest)) ≡ run_from number (message_lines message) ∷ runs_of (number + length (message_lines message)) (lines_of rest)
run_again number message rest is none =
    let all = full_message number message is in
    ap (runs_of number) (lines_again (message_lines message) rest all) ∙ one_run number (codes "SCR") (below_title message) (lines_of rest) all none

no_more : front_length (lines_of []) ≡ 0
unfolding lines_of
no_more = front_none

runs_end : (n : ℕ) → runs_of n (lines_of []) ≡ []
unfolding lines_of
runs_end n = runs_none n

alone_again : (message : Message) → IsReadAgain 1 message → runs_in (message_text message) ≡ run_from 1 (message_lines message) ∷ []
alone_again message is =
    ap (λ (t : List ℕ). runs_of 1 (lines_of t)) (sym (append-nil (message_text message))) ∙ run_again 1 message [] is no_more
    ∙ ap (λ (r : List Run). run_from 1 (message_lines message) ∷ r) (runs_end (1 + length (message_lines message)))

pub one_again : (message : Message) → NamedDays message.season → IsReadAgain 1 message → ReadsAll (message_text message) (message ∷ [])
one_again message law is = subst (λ (r : List Run). AreMessages r (message ∷ [])) (sym (alone_again message is)) (is_message 1 message law is, tt)

pub first_again : (message : Message) → NamedDays message.season → IsReadAgain 1 message → ReadsMessage (message_text message) message
first_again message law is = subst (λ (r : List Run). FirstIs r message) (sym (alone_again message is)) (is_message 1 message law is)

-- ---- several messages, with an empty line after each

empty_next : (rest : List ℕ) → lines_of (10 ∷ rest) ≡ [] ∷ lines_of rest
unfolding lines_of
empty_next rest = refl

nothing_empty : is_blank_line [] ≡ true
unfolding is_blank_line
nothing_empty = refl

-- the law at each season, as a caller has it
abbrev pub AllNamedDays : Type 0
AllNamedDays = (season : Term) → season.year < 100 → NamedDays season

messages_again : (number : ℕ) (messages : List Message) → AllNamedDays → AreReadAgain number messages → AreMessages (runs_of number (lines_of (messages_text messages))) messages
messages_again number [] law are = subst (λ (r : List Run). AreMessages r []) (sym (runs_end number)) tt
messages_again number (message ∷ messages) law are =
    let rest = messages_text messages in
    let lines = message_lines message in
    let none : front_length (lines_of (10 ∷ rest)) ≡ 0 = ap front_length (empty_next rest) ∙ front_empty [] (lines_of rest) nothing_empty in
    let skipped : runs_of (number + length lines) (lines_of (10 ∷ rest)) ≡ runs_of (number + length lines + 1) (lines_of rest) =
    ap (runs_of (number + length lines)) (empty_next rest) ∙ runs_skip (number + length lines) [] (lines_of rest) nothing_empty in
    let runs = run_again number message (10 ∷ rest) are.0 none ∙ ap (λ (r : List Run). run_from number lines ∷ r) skipped in
    subst (λ (r : List Run). AreMessages r (message ∷ messages)) (sym runs)
    (is_message number message (law message.season are.0.season) are.0, messages_again (number + length lines + 1) messages law are.1)

pub many_again : (messages : List Message) → AllNamedDays → AreReadAgain 1 messages → ReadsAll (messages_text messages) messages
many_again messages law are = messages_again 1 messages law are
