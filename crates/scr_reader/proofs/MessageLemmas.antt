-- What a run of lines is, from its header and the readings of its other lines.
use Rattle.std.proofs.Common.{◌≡◌, ◌⊎◌, ℕ, zero, suc, ◌+◌, ◌-◌, ◌<◌, ◌≤◌, List, [], ◌∷◌, length, drop, Some, Bor, refl, sym, ap, subst, ◌∙◌, arith, inl, inr}
use Rattle.std.specs.Prelude.{Option, Result, Ok, Err, IsErrAnd, IsSomeAnd, slice_get, if◌then◌else◌}
use Rattle.scr_reader.specs.Private.Decided.{Decides, OnlyMessage, OnlyFault}
use Rattle.std.proofs.lemmas.Bool.{cases_Bool}
use Rattle.season_days.specs.Term.{Term}
use Rattle.scr_reader.specs.Private.Texts.{texts_in}
use Rattle.scr_reader.specs.Rows.{Row, AreRows}
use Rattle.scr_reader.specs.Private.Readings.{AreReadings}
use Rattle.scr_reader.specs.Private.Pairing.{rows_read, AreGoodReadings, IsFirstAt}
use Rattle.scr_reader.specs.Messages.{Run, run_from, HeaderPart, title, address, parts_from_season, has_address, header_parts, header_length, season_place, header_of, body_of, PartSays, HeaderAgrees, IsHeaderFault, AreGood, IsBodyFault, items_of, IsMessage, IsMessageFault}
use Rattle.scr_reader.specs.declared.header.Header.{Header}
use Rattle.scr_reader.specs.declared.message.Message.{Message}
use Rattle.scr_reader.specs.declared.message.Placed.{Placed}
use Rattle.scr_reader.specs.declared.rows.Reading.{Reading}
use Rattle.scr_reader.specs.declared.fault.ScrFault.{ScrFault}
use Rattle.scr_reader.proofs.HeaderLemmas.{header_or_fault, header_once}
use Rattle.scr_reader.proofs.BodyLemmas.{rows_are, rows_same, good_all, good_all_back, fault_all, fault_all_back, good_or_fault, first_once}

-- ---- the header

fault_of_header : (first : ℕ) (lines : List (List ℕ)) (f g : ScrFault) → IsHeaderFault 0 (header_parts lines) first lines f → IsMessageFault (run_from first lines) g → g ≡ f
fault_of_header first lines f g is (inl other) = header_once 0 (header_parts lines) first lines g f other is
fault_of_header first lines f g is (inr below) = absurd (header_or_fault 0 (header_parts lines) first lines below.header f below.agrees is)

pub header_fault : (first : ℕ) (lines : List (List ℕ)) (f : ScrFault) → IsHeaderFault 0 (header_parts lines) first lines f → OnlyFault (run_from first lines) f
header_fault first lines f is =
    (inl is, (λ message m. header_or_fault 0 (header_parts lines) first lines (header_of message) f m.header is), λ g other. fault_of_header first lines f g is other)

-- ---- the lines below

-- rows of the season of the header are those that were read
read_rows_same : (lines : List (List ℕ)) (readings : List Reading) (rows : List (Option Row)) (season other : Term) → season ≡ other → AreReadings season lines readings → AreRows other lines rows → rows ≡ rows_read readings
read_rows_same lines readings rows season other same are read = rows_same season lines readings rows are (subst (λ (s : Term). AreRows s lines rows) (sym same) read)

good_readings : (lines : List (List ℕ)) (readings : List Reading) (rows : List (Option Row)) (season other : Term) → season ≡ other → AreReadings season lines readings → AreRows other lines rows → AreGood [] lines rows → AreGoodReadings [] readings
good_readings lines readings rows season other same are read good =
    good_all_back season [] lines readings are (subst (λ (r : List (Option Row)). AreGood [] lines r) (read_rows_same lines readings rows season other same are read) good)

fault_readings : (number : ℕ) (lines : List (List ℕ)) (readings : List Reading) (rows : List (Option Row)) (season other : Term) (g : ScrFault) → season ≡ other → AreReadings season lines readings → AreRows other lines rows → IsBodyFault other number [] lines rows g
    → IsFirstAt number [] readings g
fault_readings number lines readings rows season other g same are read bad =
    let here = subst (λ (r : List (Option Row)). IsBodyFault other number [] lines r g) (read_rows_same lines readings rows season other same are read) bad in
    fault_all_back season number [] lines readings g are (subst (λ (s : Term). IsBodyFault s number [] lines (rows_read readings) g) (sym same) here)

-- the header is the one that was read
abbrev pub ReadHeader : List (List ℕ) → Header → Type 0
ReadHeader lines header = HeaderAgrees 0 (header_parts lines) lines header × ((other : Header) → HeaderAgrees 0 (header_parts lines) lines other → header ≡ other)

fault_of_body : (first : ℕ) (lines : List (List ℕ)) (header : Header) (readings : List Reading) (f g : ScrFault) → ReadHeader lines header → AreReadings header.season (body_of lines) readings → IsFirstAt (first + header_length lines) [] readings f
    → IsMessageFault (run_from first lines) g → g ≡ f
fault_of_body first lines header readings f g read are is (inl other) = absurd (header_or_fault 0 (header_parts lines) first lines header g read.0 other)
fault_of_body first lines header readings f g read are is (inr below) =
    let same : header.season ≡ below.header.season = ap (λ (h : Header). h.season) (read.1 below.header below.agrees) in
    first_once (first + header_length lines) [] readings g f (fault_readings (first + header_length lines) (body_of lines) readings below.rows header.season below.header.season g same are below.read below.below) is

pub body_fault : (first : ℕ) (lines : List (List ℕ)) (header : Header) (readings : List Reading) (f : ScrFault) → ReadHeader lines header → AreReadings header.season (body_of lines) readings → IsFirstAt (first + header_length lines) [] readings f
    → OnlyFault (run_from first lines) f
body_fault first lines header readings f read are is = (
  inr (record { rows = rows_read readings; header = header; agrees = read.0; read = rows_are header.season (body_of lines) readings are; below = fault_all header.season (first + header_length lines) [] (body_of lines) readings f are is }),
  (λ message m.
      let same : header.season ≡ message.season = ap (λ (h : Header). h.season) (read.1 (header_of message) m.header) in
      good_or_fault (first + header_length lines) [] readings f (good_readings (body_of lines) readings m.rows header.season message.season same are m.read m.good) is),
  λ g other. fault_of_body first lines header readings f g read are is other,
)

-- ---- the whole message

no_fault : (first : ℕ) (lines : List (List ℕ)) (header : Header) (readings : List Reading) (g : ScrFault) → ReadHeader lines header → AreReadings header.season (body_of lines) readings → AreGoodReadings [] readings → IsMessageFault (run_from first lines) g → ⊥
no_fault first lines header readings g read are good (inl other) = header_or_fault 0 (header_parts lines) first lines header g read.0 other
no_fault first lines header readings g read are good (inr below) =
    let same : header.season ≡ below.header.season = ap (λ (h : Header). h.season) (read.1 below.header below.agrees) in
    good_or_fault (first + header_length lines) [] readings g good (fault_readings (first + header_length lines) (body_of lines) readings below.rows header.season below.header.season g same are below.read below.below)

abbrev pub message_of : ℕ → Header → List Placed → Message
message_of line header items = record { line = line; season = header.season; day = header.day; month = header.month; airport = header.airport; items = items }

pub same_message : (line : ℕ) (header : Header) (items : List Placed) (other : Message) → line ≡ other.line → header ≡ header_of other → items ≡ other.items → message_of line header items ≡ other
same_message line header items other e1 e2 e3 = rw (e1, e2, e3) refl

pub whole_message : (first : ℕ) (lines : List (List ℕ)) (header : Header) (readings : List Reading) (line : ℕ) (items : List Placed) → ReadHeader lines header → AreReadings header.season (body_of lines) readings → AreGoodReadings [] readings
    → items ≡ items_of (first + header_length lines) (rows_read readings) → line ≡ first + season_place lines → OnlyMessage (run_from first lines) (message_of line header items)
whole_message first lines header readings line items read are good made place = (
  record { rows = rows_read readings; line = place; header = read.0; read = rows_are header.season (body_of lines) readings are; good = good_all header.season [] (body_of lines) readings are good; items = made },
  (λ other m.
      let heads : header ≡ header_of other = read.1 (header_of other) m.header in
      let same : header.season ≡ other.season = ap (λ (h : Header). h.season) heads in
      let rows : m.rows ≡ rows_read readings = read_rows_same (body_of lines) readings m.rows header.season other.season same are m.read in
      let items_same : items ≡ other.items = made ∙ ap (items_of (first + header_length lines)) (sym rows) ∙ sym m.items in
      same_message line header items other (place ∙ sym m.line) heads items_same),
  λ g other. no_fault first lines header readings g read are good other,
)

-- ---- places

stands : (lines : List (List ℕ)) (k : ℕ) (P : List ℕ → Type 0) → IsSomeAnd (slice_get lines k) P → k < length lines
stands [] k P says = absurd says
stands (a ∷ lines) zero P says = omega arith
stands (a ∷ lines) (suc k) P says = omega (arith, stands lines k P says)

pub header_within : (place : ℕ) (part : HeaderPart) (parts : List HeaderPart) (lines : List (List ℕ)) (header : Header) → HeaderAgrees place (part ∷ parts) lines header → place + length (part ∷ parts) ≤ length lines
header_within place part [] lines header agrees = omega (arith, stands lines place (λ text. PartSays part (Some text) header) agrees.0)
header_within place part (next ∷ parts) lines header agrees =
    let rest = header_within (place + 1) next parts lines header agrees.1 in
    omega (arith, rest)

pub lengths : (lines : List (List ℕ)) → header_length lines ≡ season_place lines + 3
lengths lines =
    elim (cases_Bool (has_address lines)) [
      | inl with_one ↦ rw with_one refl
      | inr without ↦ rw without refl
    ]

pub drop_texts : (lines : List (Bor (List ℕ))) (k : ℕ) → texts_in (drop k lines) ≡ drop k (texts_in lines)
drop_texts [] zero = refl
drop_texts [] (suc k) = refl
drop_texts (a ∷ lines) zero = refl
drop_texts (a ∷ lines) (suc k) = drop_texts lines k

-- ---- from the parts that a reader has to what it decided

body_ready : (season : Term) (run body : List (Bor (List ℕ))) (skipped : ℕ) (readings : List Reading) → skipped ≡ header_length (texts_in run) → body ≡ drop skipped run → AreReadings season (texts_in body) readings → AreReadings season (body_of (texts_in run)) readings
body_ready season run body skipped readings count cut are =
    let same : texts_in body ≡ body_of (texts_in run) = ap texts_in cut ∙ drop_texts run skipped ∙ ap (λ (k : ℕ). drop k (texts_in run)) count in
    subst (λ (l : List (List ℕ)). AreReadings season l readings) same are

pub finished : (run body : List (Bor (List ℕ))) (first skipped : ℕ) (header : Header) (readings slice : List Reading) (items made : List Placed) → skipped ≡ header_length (texts_in run) → body ≡ drop skipped run → ReadHeader (texts_in run) header
    → AreReadings header.season (texts_in body) readings → slice ≡ readings → AreGoodReadings [] slice × (items ≡ items_of (first + skipped) (rows_read slice)) → made ≡ items → OnlyMessage (run_from first (texts_in run)) (message_of (first + skipped - 3) header made)
finished run body first skipped header readings slice items made count cut read are whole found put =
    let lines = texts_in run in
    let good : AreGoodReadings [] readings = subst (AreGoodReadings []) whole found.0 in
    let placed : made ≡ items_of (first + header_length lines) (rows_read readings) = put ∙ found.1 ∙ ap (λ (r : List Reading). items_of (first + skipped) (rows_read r)) whole ∙ ap (λ (k : ℕ). items_of (first + k) (rows_read readings)) count in
    let line : first + skipped - 3 ≡ first + season_place lines = omega (arith, count, lengths lines) in
    whole_message first lines header readings (first + skipped - 3) made read (body_ready header.season run body skipped readings count cut are) good placed line

pub stopped : (run body : List (Bor (List ℕ))) (first skipped : ℕ) (header : Header) (readings slice : List Reading) (f none : ScrFault) → skipped ≡ header_length (texts_in run) → body ≡ drop skipped run → ReadHeader (texts_in run) header
    → AreReadings header.season (texts_in body) readings → slice ≡ readings → IsFirstAt (first + skipped) [] slice f ⊎ (f ≡ none) → (f ≡ none) ⊎ OnlyFault (run_from first (texts_in run)) f
stopped run body first skipped header readings slice f none count cut read are whole (inr out) = inl out
stopped run body first skipped header readings slice f none count cut read are whole (inl bad) =
    let there = subst (λ (r : List Reading). IsFirstAt (first + skipped) [] r f) whole bad in
    let here = subst (λ (k : ℕ). IsFirstAt (first + k) [] readings f) count there in
    inr (body_fault first (texts_in run) header readings f read (body_ready header.season run body skipped readings count cut are) here)

-- an answer that is a fault
pub decided_fault : (run : Run) (none f : ScrFault) (r : Result Message ScrFault) → IsErrAnd r (λ e. e ≡ f) → (f ≡ none) ⊎ OnlyFault run f → Decides none (IsMessage run) (IsMessageFault run) r
decided_fault run none f (Ok m) err only = absurd err
decided_fault run none f (Err e) err only = subst (λ (x : ScrFault). (x ≡ none) ⊎ OnlyFault run x) (sym err) only

pub same_header : (lines : List (List ℕ)) (header : Header) → HeaderAgrees 0 (header_parts lines) lines header → ((other : Header) → HeaderAgrees 0 (header_parts lines) lines other → header ≡ other) → ReadHeader lines header
same_header lines header agrees same = (agrees, same)

abbrev pub after_title : List (List ℕ) → List HeaderPart
after_title lines = if has_address lines then address ∷ parts_from_season else parts_from_season

pub header_fits : (lines : List (List ℕ)) (header : Header) → HeaderAgrees 0 (header_parts lines) lines header → header_length lines ≤ length lines
header_fits lines header agrees =
    let within = header_within 0 title (after_title lines) lines header agrees in
    omega (arith, within)

pub readings_length : (season : Term) (lines : List (List ℕ)) (readings : List Reading) → AreReadings season lines readings → length readings ≡ length lines
readings_length season [] [] are = refl
readings_length season [] (r ∷ readings) are = absurd are
readings_length season (line ∷ lines) [] are = absurd are
readings_length season (line ∷ lines) (r ∷ readings) are = ap (λ (n : ℕ). suc n) (readings_length season lines readings are.1)
