-- A text has one reading or one fault at most, and never both.
use Rattle.std.proofs.Common.{◌≡◌, ℕ, ◌+◌, ◌<◌, Bool, true, false, List, [], ◌∷◌, length, Option, Some, None, refl, sym, ap, subst, ◌∙◌, arith, inl, inr}
use Rattle.std.specs.Prelude.{IsSomeAnd, slice_get, if◌then◌else◌}
use Rattle.std.proofs.lemmas.Bool.{both_ways}
use Rattle.season_days.specs.Term.{Term}
use Rattle.season_days.specs.Seasons.{season_text}
use Rattle.slot_text.specs.Lines.{lines_of}
use Rattle.slot_text.specs.Stations.{IsStation}
use Rattle.slot_text.specs.declared.station.Station.{Station}
use Rattle.scr_reader.specs.Parts.{date_text, IsDayOfMonth}
use Rattle.scr_reader.specs.Rows.{Row, remark, entry, question, trimmed, is_remark, is_question, line_fields, IsAskedFlight, IsQuestion, IsRow, IsRowOrNone, AreRows, IsBadField}
use Rattle.scr_reader.specs.Messages.{HeaderPart, address, parts_from_season, has_address, header_parts, header_length, header_of, body_of, IsShort, HeaderAgrees, IsPaired, IsGoodRow, AreGood, IsLineFault, IsBodyFault, items_of, Run, IsMessage, IsFaultBelow, IsMessageFault, AreMessages, IsFirstFault, FirstIs, IsFaultOfFirst, runs_in, ReadsMessage, HasMessageFault, ReadsAll, HasScrFault}
use Rattle.scr_reader.specs.declared.header.Header.{Header}
use Rattle.scr_reader.specs.declared.line.Line.{Line}
use Rattle.scr_reader.specs.declared.line.Flight.{Flight}
use Rattle.scr_reader.specs.declared.message.Message.{Message}
use Rattle.scr_reader.specs.declared.fault.ScrFault.{ScrFault}
use Rattle.scr_reader.specs.declared.fault.ScrFault.TheVariants.{BadLine, BadHeader, Unpaired, TooLong, Memory}
use Rattle.scr_reader.proofs.HeaderLemmas.{header_or_fault, header_once, names_same}
use Rattle.scr_reader.proofs.BodyLemmas.{bad_once, bad_is_short, bad_no_row}
use Rattle.scr_reader.proofs.MessageLemmas.{same_message}
use Rattle.scr_reader.proofs.DayLemmas.{few_days}
use Rattle.scr_reader.proofs.OncePartLemmas.{OneTime, OneSet, flight_once, date_once, season_once, station_once}
use Rattle.scr_reader.proofs.OnceLineLemmas.{line_once}

-- ---- one line

asked_once : (text : List ℕ) (a b : Flight) → IsAskedFlight text a → IsAskedFlight text b → a ≡ b
asked_once [] a b x y = absurd x
asked_once (q ∷ text) a b x y = flight_once text a b x.1 y.1

question_once : (fields : List (List ℕ)) (a b : Flight) → IsQuestion fields a → IsQuestion fields b → a ≡ b
question_once [] a b x y = absurd x
question_once (text ∷ fields) a b x y = asked_once text a b x.0 y.0

pub row_once : OneTime → OneSet → (season : Term) (line : List ℕ) (a b : Row) → IsRow season line a → IsRow season line b → a ≡ b
row_once times sets season line remark remark x y = refl
row_once times sets season line remark (entry b) x y = absurd (both_ways (is_remark line) y.0.read x)
row_once times sets season line remark (question b) x y = absurd (both_ways (is_remark line) y.0.read x)
row_once times sets season line (entry a) remark x y = absurd (both_ways (is_remark line) x.0.read y)
row_once times sets season line (entry a) (entry b) x y = ap (λ (l : Line). entry l) (line_once times sets season (line_fields line) a b x.1 y.1)
row_once times sets season line (entry a) (question b) x y = absurd (both_ways (is_question (line_fields line)) x.0.kind y.0.kind)
row_once times sets season line (question a) remark x y = absurd (both_ways (is_remark line) x.0.read y)
row_once times sets season line (question a) (entry b) x y = absurd (both_ways (is_question (line_fields line)) y.0.kind x.0.kind)
row_once times sets season line (question a) (question b) x y = ap (λ (f : Flight). question f) (question_once (line_fields line) a b x.1 y.1)

row_or_none_once : OneTime → OneSet → (season : Term) (line : List ℕ) (a b : Option Row) → IsRowOrNone season line a → IsRowOrNone season line b → a ≡ b
row_or_none_once times sets season line None None x y = refl
row_or_none_once times sets season line None (Some b) x y = absurd (x b y)
row_or_none_once times sets season line (Some a) None x y = absurd (y a x)
row_or_none_once times sets season line (Some a) (Some b) x y = ap (λ (r : Row). let o : Option Row = Some r in o) (row_once times sets season line a b x y)

rows_once : OneTime → OneSet → (season : Term) (lines : List (List ℕ)) (a b : List (Option Row)) → AreRows season lines a → AreRows season lines b → a ≡ b
rows_once times sets season [] [] [] x y = refl
rows_once times sets season [] [] (r ∷ b) x y = absurd y
rows_once times sets season [] (r ∷ a) b x y = absurd x
rows_once times sets season (line ∷ lines) [] b x y = absurd x
rows_once times sets season (line ∷ lines) (r ∷ a) [] x y = absurd y
rows_once times sets season (line ∷ lines) (r ∷ a) (s ∷ b) x y =
    let here : r ≡ s = row_or_none_once times sets season line r s x.0 y.0 in
    let rest : a ≡ b = rows_once times sets season lines a b x.1 y.1 in
    rw (here, rest) refl

-- ---- the header

both_say : {R : Type 0} (o : Option (List ℕ)) (P Q : List ℕ → Type 0) → IsSomeAnd o P → IsSomeAnd o Q → ((text : List ℕ) → P text → Q text → R) → R
both_say {R} None P Q p q both = absurd p
both_say {R} (Some text) P Q p q both = both text p q

abbrev SaysSeason : Term → List ℕ → Type 0
SaysSeason season text = IsShort text × ((season.year < 100) × (trimmed text ≡ season_text season))

abbrev SaysDate : ℕ → ℕ → List ℕ → Type 0
SaysDate day month text = IsShort text × (IsDayOfMonth month day × (trimmed text ≡ date_text month day))

abbrev SaysAirport : Station → List ℕ → Type 0
SaysAirport airport text = IsShort text × (IsStation airport.0 × (trimmed text ≡ airport.0))

dates_say : (text : List ℕ) (day month day' month' : ℕ) → SaysDate day month text → SaysDate day' month' text → (day ≡ day') × (month ≡ month')
dates_say text day month day' month' x y =
    let a = x.1.0 in
    let b = y.1.0 in
    let same = date_once month day month' day' a.month_from a.month_to (few_days month day a) b.month_from b.month_to (few_days month' day' b) (sym x.1.1 ∙ y.1.1) in
    (same.1, same.0)

names_once : (place : ℕ) (lines : List (List ℕ)) (a b : Header) → HeaderAgrees place parts_from_season lines a → HeaderAgrees place parts_from_season lines b → a ≡ b
names_once place lines a b x y =
    let third : place + 1 + 1 ≡ place + 2 = omega arith in
    let said : IsSomeAnd (slice_get lines (place + 2)) (SaysAirport a.airport) = subst (λ (k : ℕ). IsSomeAnd (slice_get lines k) (SaysAirport a.airport)) third x.1.1.0 in
    names_same lines place (slice_get lines place) (slice_get lines (place + 1)) (slice_get lines (place + 2)) a.season a.day a.month a.airport b refl refl refl
    (λ s is. both_say (slice_get lines place) (SaysSeason a.season) (SaysSeason s) x.0 is (λ text p q. season_once a.season s p.1.0 q.1.0 (sym p.1.1 ∙ q.1.1)))
    (λ day month is. both_say (slice_get lines (place + 1)) (SaysDate a.day a.month) (SaysDate day month) x.1.0 is (λ text p q. dates_say text a.day a.month day month p q))
    (λ s is. both_say (slice_get lines (place + 2)) (SaysAirport a.airport) (SaysAirport s) said is (λ text p q. station_once a.airport s (sym p.1.1 ∙ q.1.1)))
    y

abbrev if_address : Bool → List HeaderPart
if_address with_address = if with_address then address ∷ parts_from_season else parts_from_season

behind_title : (with_address : Bool) (lines : List (List ℕ)) (a b : Header) → HeaderAgrees 1 (if_address with_address) lines a → HeaderAgrees 1 (if_address with_address) lines b → a ≡ b
behind_title true lines a b x y = names_once 2 lines a b x.1 y.1
behind_title false lines a b x y = names_once 1 lines a b x y

pub header_is_once : (lines : List (List ℕ)) (a b : Header) → HeaderAgrees 0 (header_parts lines) lines a → HeaderAgrees 0 (header_parts lines) lines b → a ≡ b
header_is_once lines a b x y = behind_title (has_address lines) lines a b x.1 y.1

-- ---- the lines below

good_no_fault : (season : Term) (number : ℕ) (line : List ℕ) (row : Option Row) (before after : List (Option Row)) (f : ScrFault) → IsRowOrNone season line row → IsGoodRow line row before after → IsLineFault season number line row before after f → ⊥
good_no_fault season number line None before after f is good has = good
good_no_fault season number line (Some row) before after (TooLong at) is good has = omega (arith, good.0, has.1)
good_no_fault season number line (Some row) before after (BadLine at field) is good has = bad_no_row season line field row has.1 is
good_no_fault season number line (Some row) before after (Unpaired at) is good has = has.2 good.1
good_no_fault season number line (Some row) before after (BadHeader at) is good has = has
good_no_fault season number line (Some row) before after Memory is good has = has

-- a line with a bad field is no row
no_row_at_bad : (season : Term) (line : List ℕ) (row : Option Row) (field : ℕ) (P : Row → Type 0) → IsRowOrNone season line row → IsBadField season line field → IsSomeAnd row P → ⊥
no_row_at_bad season line None field P is bad some = some
no_row_at_bad season line (Some row) field P is bad some = bad_no_row season line field row bad is

line_fault_once : (season : Term) (number : ℕ) (line : List ℕ) (row : Option Row) (before after : List (Option Row)) (f g : ScrFault) → IsRowOrNone season line row → IsLineFault season number line row before after f → IsLineFault season number line row before after g → f ≡ g
line_fault_once season number line row before after (TooLong a) (TooLong b) is x y = ap TooLong (x.0 ∙ sym y.0)
line_fault_once season number line row before after (TooLong a) (BadLine b k) is x y = absurd (omega (arith, x.1, bad_is_short season line k y.1))
line_fault_once season number line row before after (TooLong a) (Unpaired b) is x y = absurd (omega (arith, x.1, y.1))
line_fault_once season number line row before after (BadLine a k) (TooLong b) is x y = absurd (omega (arith, y.1, bad_is_short season line k x.1))
line_fault_once season number line row before after (BadLine a k) (BadLine b m) is x y =
    let at : a ≡ b = x.0 ∙ sym y.0 in
    let field : k ≡ m = bad_once season line k m x.1 y.1 in
    rw (at, field) refl
line_fault_once season number line row before after (BadLine a k) (Unpaired b) is x y =
    absurd (no_row_at_bad season line row k (λ r. IsPaired r before after → ⊥) is x.1 y.2)
line_fault_once season number line row before after (Unpaired a) (TooLong b) is x y = absurd (omega (arith, y.1, x.1))
line_fault_once season number line row before after (Unpaired a) (BadLine b k) is x y =
    absurd (no_row_at_bad season line row k (λ r. IsPaired r before after → ⊥) is y.1 x.2)
line_fault_once season number line row before after (Unpaired a) (Unpaired b) is x y = ap Unpaired (x.0 ∙ sym y.0)
line_fault_once season number line row before after (BadHeader a) g is x y = absurd x
line_fault_once season number line row before after Memory g is x y = absurd x
line_fault_once season number line row before after f (BadHeader b) is x y = absurd y
line_fault_once season number line row before after f Memory is x y = absurd y

body_no_fault : (season : Term) (number : ℕ) (before : List (Option Row)) (lines : List (List ℕ)) (rows : List (Option Row)) (f : ScrFault) → AreRows season lines rows → AreGood before lines rows → IsBodyFault season number before lines rows f → ⊥
body_no_fault season number before [] rows f are good has = has
body_no_fault season number before (line ∷ lines) [] f are good has = has
body_no_fault season number before (line ∷ lines) (row ∷ rows) f are good (inl here) = good_no_fault season number line row before rows f are.0 good.0 here
body_no_fault season number before (line ∷ lines) (row ∷ rows) f are good (inr later) = body_no_fault season (number + 1) (row ∷ before) lines rows f are.1 good.1 later.1

body_fault_once : (season : Term) (number : ℕ) (before : List (Option Row)) (lines : List (List ℕ)) (rows : List (Option Row)) (f g : ScrFault) → AreRows season lines rows → IsBodyFault season number before lines rows f → IsBodyFault season number before lines rows g → f ≡ g
body_fault_once season number before [] rows f g are x y = absurd x
body_fault_once season number before (line ∷ lines) [] f g are x y = absurd x
body_fault_once season number before (line ∷ lines) (row ∷ rows) f g are (inl x) (inl y) = line_fault_once season number line row before rows f g are.0 x y
body_fault_once season number before (line ∷ lines) (row ∷ rows) f g are (inl x) (inr y) = absurd (good_no_fault season number line row before rows f are.0 y.0 x)
body_fault_once season number before (line ∷ lines) (row ∷ rows) f g are (inr x) (inl y) = absurd (good_no_fault season number line row before rows g are.0 x.0 y)
body_fault_once season number before (line ∷ lines) (row ∷ rows) f g are (inr x) (inr y) = body_fault_once season (number + 1) (row ∷ before) lines rows f g are.1 x.1 y.1

-- ---- one message

-- rows of the season of one header are those of the season of the other
rows_moved : OneTime → OneSet → (lines : List (List ℕ)) (s t : Term) (a b : List (Option Row)) → s ≡ t → AreRows s lines a → AreRows t lines b → a ≡ b
rows_moved times sets lines s t a b same x y = rows_once times sets s lines a b x (subst (λ (u : Term). AreRows u lines b) (sym same) y)

message_once : OneTime → OneSet → (run : Run) (a b : Message) → IsMessage run a → IsMessage run b → a ≡ b
message_once times sets run a b x y =
    let header : header_of a ≡ header_of b = header_is_once run.lines (header_of a) (header_of b) x.header y.header in
    let season : a.season ≡ b.season = ap (λ (h : Header). h.season) header in
    let rows : x.rows ≡ y.rows = rows_moved times sets (body_of run.lines) a.season b.season x.rows y.rows season x.read y.read in
    let items : a.items ≡ b.items = x.items ∙ ap (items_of (run.number + header_length run.lines)) rows ∙ sym y.items in
    same_message a.line (header_of a) a.items b (x.line ∙ sym y.line) header items

-- the fault of the lines below, said with another header that agrees
below_moved : OneTime → OneSet → (run : Run) (f : ScrFault) (season : Term) (rows : List (Option Row)) (y : IsFaultBelow run f) → season ≡ y.header.season → AreRows season (body_of run.lines) rows
    → IsBodyFault season (run.number + header_length run.lines) [] (body_of run.lines) rows f
below_moved times sets run f season rows y same read =
    let number = run.number + header_length run.lines in
    let all : rows ≡ y.rows = rows_moved times sets (body_of run.lines) season y.header.season rows y.rows same read y.read in
    subst (λ (r : List (Option Row)). IsBodyFault season number [] (body_of run.lines) r f) (sym all)
    (subst (λ (s : Term). IsBodyFault s number [] (body_of run.lines) y.rows f) (sym same) y.below)

message_no_fault : OneTime → OneSet → (run : Run) (m : Message) (f : ScrFault) → IsMessage run m → IsMessageFault run f → ⊥
message_no_fault times sets run m f x (inl above) = header_or_fault 0 (header_parts run.lines) run.number run.lines (header_of m) f x.header above
message_no_fault times sets run m f x (inr y) =
    let same : m.season ≡ y.header.season = ap (λ (h : Header). h.season) (header_is_once run.lines (header_of m) y.header x.header y.agrees) in
    body_no_fault m.season (run.number + header_length run.lines) [] (body_of run.lines) x.rows f x.read x.good (below_moved times sets run f m.season x.rows y same x.read)

message_fault_once : OneTime → OneSet → (run : Run) (f g : ScrFault) → IsMessageFault run f → IsMessageFault run g → f ≡ g
message_fault_once times sets run f g (inl x) (inl y) = header_once 0 (header_parts run.lines) run.number run.lines f g x y
message_fault_once times sets run f g (inl x) (inr y) = absurd (header_or_fault 0 (header_parts run.lines) run.number run.lines y.header f y.agrees x)
message_fault_once times sets run f g (inr x) (inl y) = absurd (header_or_fault 0 (header_parts run.lines) run.number run.lines x.header g x.agrees y)
message_fault_once times sets run f g (inr x) (inr y) =
    let same : x.header.season ≡ y.header.season = ap (λ (h : Header). h.season) (header_is_once run.lines x.header y.header x.agrees y.agrees) in
    body_fault_once x.header.season (run.number + header_length run.lines) [] (body_of run.lines) x.rows f g x.read x.below (below_moved times sets run g x.header.season x.rows y same x.read)

-- ---- a text

messages_once : OneTime → OneSet → (runs : List Run) (a b : List Message) → AreMessages runs a → AreMessages runs b → a ≡ b
messages_once times sets [] [] [] x y = refl
messages_once times sets [] [] (n ∷ b) x y = absurd y
messages_once times sets [] (m ∷ a) b x y = absurd x
messages_once times sets (run ∷ runs) [] b x y = absurd x
messages_once times sets (run ∷ runs) (m ∷ a) [] x y = absurd y
messages_once times sets (run ∷ runs) (m ∷ a) (n ∷ b) x y =
    let here : m ≡ n = message_once times sets run m n x.0 y.0 in
    let rest : a ≡ b = messages_once times sets runs a b x.1 y.1 in
    rw (here, rest) refl

messages_no_fault : OneTime → OneSet → (runs : List Run) (a : List Message) (f : ScrFault) → AreMessages runs a → IsFirstFault runs f → ⊥
messages_no_fault times sets [] a f x y = y
messages_no_fault times sets (run ∷ runs) [] f x y = x
messages_no_fault times sets (run ∷ runs) (m ∷ a) f x (inl here) = message_no_fault times sets run m f x.0 here
messages_no_fault times sets (run ∷ runs) (m ∷ a) f x (inr later) = messages_no_fault times sets runs a f x.1 later.1

first_fault_once : OneTime → OneSet → (runs : List Run) (f g : ScrFault) → IsFirstFault runs f → IsFirstFault runs g → f ≡ g
first_fault_once times sets [] f g x y = absurd x
first_fault_once times sets (run ∷ runs) f g (inl x) (inl y) = message_fault_once times sets run f g x y
first_fault_once times sets (run ∷ runs) f g (inl x) (inr y) = absurd (message_no_fault times sets run y.0.0 f y.0.1 x)
first_fault_once times sets (run ∷ runs) f g (inr x) (inl y) = absurd (message_no_fault times sets run x.0.0 g x.0.1 y)
first_fault_once times sets (run ∷ runs) f g (inr x) (inr y) = first_fault_once times sets runs f g x.1 y.1

first_once : OneTime → OneSet → (runs : List Run) (a b : Message) → FirstIs runs a → FirstIs runs b → a ≡ b
first_once times sets [] a b x y = absurd x
first_once times sets (run ∷ runs) a b x y = message_once times sets run a b x y

first_no_fault : OneTime → OneSet → (number : ℕ) (runs : List Run) (a : Message) (f : ScrFault) → FirstIs runs a → IsFaultOfFirst number runs f → ⊥
first_no_fault times sets number [] a f x y = x
first_no_fault times sets number (run ∷ runs) a f x y = message_no_fault times sets run a f x y

fault_of_first_once : OneTime → OneSet → (number : ℕ) (runs : List Run) (f g : ScrFault) → IsFaultOfFirst number runs f → IsFaultOfFirst number runs g → f ≡ g
fault_of_first_once times sets number [] f g x y = x ∙ sym y
fault_of_first_once times sets number (run ∷ runs) f g x y = message_fault_once times sets run f g x y

pub all_once : OneTime → OneSet → (bytes : List ℕ) (a b : List Message) → ReadsAll bytes a → ReadsAll bytes b → a ≡ b
all_once times sets bytes a b x y = messages_once times sets (runs_in bytes) a b x y

pub all_no_fault : OneTime → OneSet → (bytes : List ℕ) (a : List Message) (f : ScrFault) → ReadsAll bytes a → HasScrFault bytes f → ⊥
all_no_fault times sets bytes a f x y = messages_no_fault times sets (runs_in bytes) a f x y

pub fault_once : OneTime → OneSet → (bytes : List ℕ) (f g : ScrFault) → HasScrFault bytes f → HasScrFault bytes g → f ≡ g
fault_once times sets bytes f g x y = first_fault_once times sets (runs_in bytes) f g x y

pub one_once : OneTime → OneSet → (bytes : List ℕ) (a b : Message) → ReadsMessage bytes a → ReadsMessage bytes b → a ≡ b
one_once times sets bytes a b x y = first_once times sets (runs_in bytes) a b x y

pub one_no_fault : OneTime → OneSet → (bytes : List ℕ) (a : Message) (f : ScrFault) → ReadsMessage bytes a → HasMessageFault bytes f → ⊥
one_no_fault times sets bytes a f x y = first_no_fault times sets (length (lines_of bytes) + 1) (runs_in bytes) a f x y

pub fault_of_one_once : OneTime → OneSet → (bytes : List ℕ) (f g : ScrFault) → HasMessageFault bytes f → HasMessageFault bytes g → f ≡ g
fault_of_one_once times sets bytes f g x y = fault_of_first_once times sets (length (lines_of bytes) + 1) (runs_in bytes) f g x y
