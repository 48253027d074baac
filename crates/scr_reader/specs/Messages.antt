-- Messages: the header, the rows with their pairs, the first fault, and several messages in one
-- text.
use Rattle.std.specs.Prelude.{◌≡◌, ◌⊎◌, ℕ, suc, ◌+◌, ◌<◌, ◌≤◌, Bool, true, false, ◌==◌, if◌then◌else◌, List, [], ◌∷◌, length, drop, slice_get, Option, Some, None, is_some, IsSomeAnd, codes}
use Rattle.slot_text.specs.Lines.{lines_of}
use Rattle.slot_text.specs.Stations.{IsStation}
use Rattle.season_days.specs.Term.{Term}
use Rattle.season_days.specs.Seasons.{season_text}
use Rattle.slot_text.specs.declared.lines.TheConstants.{LONGEST_LINE}
use Rattle.slot_text.specs.Fields.{is_blank_line}
use Rattle.scr_reader.specs.Parts.{date_text, IsDayOfMonth}
use Rattle.scr_reader.specs.Rows.{trimmed, Row, remark, entry, question, AreRows, IsBadField}
use Rattle.scr_reader.specs.declared.line.Line.{Line}
use Rattle.scr_reader.specs.declared.line.Code.{Code}
use Rattle.scr_reader.specs.declared.line.Code.TheVariants.{C, R, L}
use Rattle.scr_reader.specs.declared.line.Item.{Item}
use Rattle.scr_reader.specs.declared.line.Item.TheVariants.{One, Pair, Query}
use Rattle.scr_reader.specs.declared.message.Placed.{Placed}
use Rattle.scr_reader.specs.declared.message.Message.{Message}
use Rattle.scr_reader.specs.declared.header.Header.{Header}
use Rattle.scr_reader.specs.declared.fault.ScrFault.{ScrFault}
use Rattle.scr_reader.specs.declared.fault.ScrFault.TheVariants.{BadLine, BadHeader, Unpaired, TooLong, Memory}

-- ---- the header

pub data HeaderPart : Type 0 where
  title : HeaderPart
  address : HeaderPart
  season_name : HeaderPart
  date_name : HeaderPart
  airport_name : HeaderPart

-- a line that begins with / directly after the first
abbrev pub begins_with_slash : List ℕ → Bool
begins_with_slash [] = false
begins_with_slash (b ∷ line) = b == 47

abbrev pub has_address : List (List ℕ) → Bool
has_address (first ∷ second ∷ lines) = begins_with_slash second
has_address lines = false

abbrev pub parts_from_season : List HeaderPart
parts_from_season = season_name ∷ date_name ∷ airport_name ∷ []

abbrev pub header_parts : List (List ℕ) → List HeaderPart
header_parts lines =
    title ∷ (if has_address lines then address ∷ parts_from_season else parts_from_season)

abbrev pub IsShort : List ℕ → Type 0
IsShort line = length line ≤ LONGEST_LINE

-- what a line of the header says
abbrev pub HeaderSays : HeaderPart → List ℕ → Header → Type 0
HeaderSays title line header = trimmed line ≡ codes "SCR"
HeaderSays address line header = Unit {0}
HeaderSays season_name line header =
    (header.season.year < 100) × (trimmed line ≡ season_text header.season)
HeaderSays date_name line header =
    IsDayOfMonth header.month header.day × (trimmed line ≡ date_text header.month header.day)
HeaderSays airport_name line header = IsStation header.airport.0 × (trimmed line ≡ header.airport.0)

-- the line is there, is not too long, and says so
abbrev pub PartSays : HeaderPart → Option (List ℕ) → Header → Type 0
PartSays part line header = IsSomeAnd line (λ text. IsShort text × HeaderSays part text header)

-- the lines from a place on are those of the parts, and say what the header is
abbrev pub HeaderAgrees : ℕ → List HeaderPart → List (List ℕ) → Header → Type 0
HeaderAgrees place [] lines header = Unit {0}
HeaderAgrees place (part ∷ parts) lines header =
    PartSays part (slice_get lines place) header × HeaderAgrees (place + 1) parts lines header

-- a line is missing or too long
abbrev pub IsMissingOrLong : ℕ → Option (List ℕ) → ScrFault → Type 0
IsMissingOrLong number None fault = fault ≡ BadHeader number
IsMissingOrLong number (Some line) fault = (LONGEST_LINE < length line) × (fault ≡ TooLong number)

-- a line of the header is missing or too long, or has not its form
abbrev pub IsPartFault : HeaderPart → ℕ → Option (List ℕ) → ScrFault → Type 0
IsPartFault part number line fault =
    IsMissingOrLong number line fault
    ⊎ (IsSomeAnd line (λ text. IsShort text × ((header : Header) → HeaderSays part text header → ⊥))
    × (fault ≡ BadHeader number))

-- the fault of the first line of the header that has one, the first line of the run having the
-- number
abbrev pub IsHeaderFault : ℕ → List HeaderPart → ℕ → List (List ℕ) → ScrFault → Type 0
IsHeaderFault place [] first lines fault = ⊥
IsHeaderFault place (part ∷ parts) first lines fault =
    IsPartFault part (first + place) (slice_get lines place) fault
    ⊎ (((header : Header) × PartSays part (slice_get lines place) header)
    × IsHeaderFault (place + 1) parts first lines fault)

-- what the header of a message says
abbrev pub header_of : Message → Header
header_of message =
    record {
      season = message.season;
      day = message.day;
      month = message.month;
      airport = message.airport;
    }

-- ---- pairs

-- the line that asks for the change: R or L, of the same shape, with the same period and weekdays
pub record AsksChange (changed asked : Line) : Type 0 where
  pub request : (asked.code ≡ R) ⊎ (asked.code ≡ L)
  pub arrivals : is_some changed.arrival ≡ is_some asked.arrival
  pub departures : is_some changed.departure ≡ is_some asked.departure
  pub period : asked.period ≡ changed.period

-- the next row that is no remark, if it has a reading
abbrev pub next_row : List (Option Row) → Option Row
next_row [] = None
next_row (None ∷ rows) = None
next_row (Some remark ∷ rows) = next_row rows
next_row (Some (entry line) ∷ rows) = Some (entry line)
next_row (Some (question flight) ∷ rows) = Some (question flight)

abbrev pub RowAsksChange : Line → Row → Type 0
RowAsksChange changed remark = ⊥
RowAsksChange changed (entry asked) = AsksChange changed asked
RowAsksChange changed (question flight) = ⊥

abbrev pub RowIsChange : Row → Type 0
RowIsChange remark = ⊥
RowIsChange (entry changed) = changed.code ≡ C
RowIsChange (question flight) = ⊥

-- A line that changes is followed by the line that asks for it, and one that asks for a change
-- follows a line that changes. The rows before it stand from the last to the first.
abbrev pub LineIsPaired : Code → Line → List (Option Row) → List (Option Row) → Type 0
LineIsPaired C line before after = IsSomeAnd (next_row after) (RowAsksChange line)
LineIsPaired R line before after = IsSomeAnd (next_row before) RowIsChange
LineIsPaired L line before after = IsSomeAnd (next_row before) RowIsChange
LineIsPaired code line before after = Unit {0}

abbrev pub IsPaired : Row → List (Option Row) → List (Option Row) → Type 0
IsPaired remark before after = Unit {0}
IsPaired (entry line) before after = LineIsPaired line.code line before after
IsPaired (question flight) before after = Unit {0}

-- ---- the rows below the header

abbrev pub IsGoodRow : List ℕ → Option Row → List (Option Row) → List (Option Row) → Type 0
IsGoodRow line None before after = ⊥
IsGoodRow line (Some row) before after = IsShort line × IsPaired row before after

abbrev pub AreGood : List (Option Row) → List (List ℕ) → List (Option Row) → Type 0
AreGood before (line ∷ lines) (row ∷ rows) =
    IsGoodRow line row before rows × AreGood (row ∷ before) lines rows
AreGood before lines rows = Unit {0}

-- one line's fault: too long, then the first field that has not its form, then unpaired
abbrev pub IsLineFault : Term → ℕ → List ℕ → Option Row → List (Option Row) → List (Option Row) →
    ScrFault → Type 0
IsLineFault season number line row before after (TooLong at) =
    (at ≡ number) × (LONGEST_LINE < length line)
IsLineFault season number line row before after (BadLine at field) =
    (at ≡ number) × IsBadField season line field
IsLineFault season number line row before after (Unpaired at) =
    (at ≡ number) × IsShort line × IsSomeAnd row (λ r. IsPaired r before after → ⊥)
IsLineFault season number line row before after (BadHeader at) = ⊥
IsLineFault season number line row before after Memory = ⊥

-- the fault of the lowest line
abbrev pub IsBodyFault : Term → ℕ → List (Option Row) → List (List ℕ) → List (Option Row) →
    ScrFault → Type 0
IsBodyFault season number before (line ∷ lines) (row ∷ rows) fault =
    IsLineFault season number line row before rows fault
    ⊎ (IsGoodRow line row before rows
    × IsBodyFault season (number + 1) (row ∷ before) lines rows fault)
IsBodyFault season number before lines rows fault = ⊥

-- ---- items

abbrev pub pair_item : Line → Option Row → Option Item
pair_item changed (Some (entry asked)) = Some (Pair changed asked)
pair_item changed row = None

-- a line that asks for a change is part of the pair before it
abbrev pub line_item : Code → Line → List (Option Row) → Option Item
line_item C line after = pair_item line (next_row after)
line_item R line after = None
line_item L line after = None
line_item code line after = Some (One line)

abbrev pub row_item : Option Row → List (Option Row) → Option Item
row_item None after = None
row_item (Some remark) after = None
row_item (Some (entry line)) after = line_item line.code line after
row_item (Some (question flight)) after = Some (Query flight)

abbrev pub place : ℕ → Option Item → List Placed → List Placed
place number None items = items
place number (Some item) items = record { line = number; item = item } ∷ items

-- the items in order; a pair has the number of the line that changes
unfoldable pub items_of : ℕ → List (Option Row) → List Placed
items_of number [] = []
items_of number (row ∷ rows) = place number (row_item row rows) (items_of (number + 1) rows)

-- ---- one message

abbrev pub season_place : List (List ℕ) → ℕ
season_place lines = if has_address lines then 2 else 1

abbrev pub header_length : List (List ℕ) → ℕ
header_length lines = length (header_parts lines)

abbrev pub body_of : List (List ℕ) → List (List ℕ)
body_of lines = drop (header_length lines) lines

-- lines that follow each other, and the number of the first
pub record Run : Type 0 where
  pub number : ℕ
  pub lines : List (List ℕ)

abbrev pub run_from : ℕ → List (List ℕ) → Run
run_from number lines = record { number = number; lines = lines }

-- the lines are this message
pub record IsMessage (run : Run) (message : Message) : Type 0 where
  pub rows : List (Option Row)
  pub line : message.line ≡ run.number + season_place run.lines
  pub header : HeaderAgrees 0 (header_parts run.lines) run.lines (header_of message)
  pub read : AreRows message.season (body_of run.lines) rows
  pub good : AreGood [] (body_of run.lines) rows
  pub items : message.items ≡ items_of (run.number + header_length run.lines) rows

pub record IsFaultBelow (run : Run) (fault : ScrFault) : Type 0 where
  pub rows : List (Option Row)
  pub header : Header
  pub agrees : HeaderAgrees 0 (header_parts run.lines) run.lines header
  pub read : AreRows header.season (body_of run.lines) rows
  pub below : IsBodyFault header.season (run.number + header_length run.lines) []
      (body_of run.lines) rows fault

-- the fault of the lowest line of a message
abbrev pub IsMessageFault : Run → ScrFault → Type 0
IsMessageFault run fault =
    IsHeaderFault 0 (header_parts run.lines) run.number run.lines fault ⊎ IsFaultBelow run fault

-- ---- several messages

abbrev pub begins_in_run : List (List ℕ) → Bool
begins_in_run [] = false
begins_in_run (line ∷ lines) = if is_blank_line line then false else true

abbrev pub onto_run : ℕ → List ℕ → List Run → List Run
onto_run number line [] = record { number = number; lines = line ∷ [] } ∷ []
onto_run number line (run ∷ runs) = record { number = number; lines = line ∷ run.lines } ∷ runs

-- the maximal runs of lines that aren't empty, the first line having the number
unfoldable pub runs_of : ℕ → List (List ℕ) → List Run
runs_of number [] = []
runs_of number (line ∷ lines) =
    if is_blank_line line then runs_of (number + 1) lines
    else (if begins_in_run lines then onto_run number line (runs_of (number + 1) lines)
    else record { number = number; lines = line ∷ [] } ∷ runs_of (number + 1) lines)

-- how many lines stand before the first empty one
unfoldable pub front_length : List (List ℕ) → ℕ
front_length [] = 0
front_length (line ∷ lines) = if is_blank_line line then 0 else suc (front_length lines)

-- the text's runs are these messages
abbrev pub AreMessages : List Run → List Message → Type 0
AreMessages [] [] = Unit {0}
AreMessages [] (message ∷ messages) = ⊥
AreMessages (run ∷ runs) [] = ⊥
AreMessages (run ∷ runs) (message ∷ messages) = IsMessage run message × AreMessages runs messages

abbrev pub IsFirstFault : List Run → ScrFault → Type 0
IsFirstFault [] fault = ⊥
IsFirstFault (run ∷ runs) fault =
    IsMessageFault run fault
    ⊎ (((message : Message) × IsMessage run message) × IsFirstFault runs fault)

-- the first run is the message; where there is none, the header is missing after the last line
abbrev pub FirstIs : List Run → Message → Type 0
FirstIs [] message = ⊥
FirstIs (run ∷ runs) message = IsMessage run message

abbrev pub IsFaultOfFirst : ℕ → List Run → ScrFault → Type 0
IsFaultOfFirst number [] fault = fault ≡ BadHeader number
IsFaultOfFirst number (run ∷ runs) fault = IsMessageFault run fault

abbrev pub runs_in : List ℕ → List Run
runs_in bytes = runs_of 1 (lines_of bytes)

abbrev pub ReadsMessage : List ℕ → Message → Type 0
ReadsMessage bytes message = FirstIs (runs_in bytes) message

abbrev pub HasMessageFault : List ℕ → ScrFault → Type 0
HasMessageFault bytes fault = IsFaultOfFirst (length (lines_of bytes) + 1) (runs_in bytes) fault

abbrev pub ReadsAll : List ℕ → List Message → Type 0
ReadsAll bytes messages = AreMessages (runs_in bytes) messages

abbrev pub HasScrFault : List ℕ → ScrFault → Type 0
HasScrFault bytes fault = IsFirstFault (runs_in bytes) fault
