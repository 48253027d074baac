-- The one printed spelling of a line and of a message, and which values have one.
use Rattle.std.specs.Prelude.{◌≡◌, ◌≢◌, ℕ, zero, suc, ◌+◌, ◌*◌, ◌<◌, ◌≤◌, true, nat_lt, if◌then◌else◌, List, [], ◌∷◌, ◌++◌, Option, Some, None, codes}
use Rattle.schedule_text.specs.Days.{days_text}
use Rattle.schedule_text.specs.Times.{time_text, digit}
use Rattle.slot_text.specs.Ended.{ended}
use Rattle.scr_reader.specs.Rows.{entry, IsRow}
use Rattle.season_days.specs.Term.{Term}
use Rattle.season_days.specs.declared.declaration.TheConstants.{MINUTES_OF_DAY}
use Rattle.season_days.specs.Seasons.{season_text, date_at, date_count, dates_of}
use Rattle.season_days.specs.declared.day.Period.{Period}
use Rattle.scr_reader.specs.Bytes.{is_letter, three_digits, four_digits}
use Rattle.scr_reader.specs.Parts.{code_of, AirlineFits, airline_text, SuffixFits, suffix_text, date_text, StationsFit, stations_text, ThreeLettersOrDigits}
use Rattle.scr_reader.specs.declared.line.Line.{Line}
use Rattle.scr_reader.specs.declared.line.Stop.{Stop}
use Rattle.scr_reader.specs.declared.line.Flight.{Flight}
use Rattle.scr_reader.specs.declared.line.Item.{Item}
use Rattle.scr_reader.specs.declared.line.Item.TheVariants.{One, Pair, Query}
use Rattle.scr_reader.specs.declared.line.Code.{Code}
use Rattle.scr_reader.specs.declared.line.Code.TheVariants.{N, B, F, C, R, L, D, A, Z, K, H, O, U, W, X}
use Rattle.scr_reader.specs.Messages.{header_of}
use Rattle.scr_reader.specs.declared.header.Header.{Header}
use Rattle.scr_reader.specs.declared.message.Placed.{Placed}
use Rattle.scr_reader.specs.declared.message.Message.{Message}

-- ---- the fields of a line

abbrev pub code_letter : Code → ℕ
code_letter N = 78
code_letter B = 66
code_letter F = 70
code_letter C = 67
code_letter R = 82
code_letter L = 76
code_letter D = 68
code_letter A = 65
code_letter Z = 90
code_letter K = 75
code_letter H = 72
code_letter O = 79
code_letter U = 85
code_letter W = 87
code_letter X = 88

-- at least three digits
abbrev pub number_text : ℕ → List ℕ
number_text n = if nat_lt n 1000 then three_digits n else four_digits n

-- the airline, the number, and the letter if there is one
abbrev pub flight_text : Flight → List ℕ
flight_text flight =
    airline_text flight.airline ++ (number_text flight.number ++ suffix_text flight.suffix)

-- no digit for no nights
abbrev pub nights_text : ℕ → List ℕ
nights_text zero = []
nights_text (suc n) = digit (suc n) ∷ []

abbrev pub arrival_group_text : Stop → List ℕ
arrival_group_text stop = stations_text stop.near stop.far ++ time_text stop.minute

abbrev pub departure_group_text : Stop → ℕ → List ℕ
departure_group_text stop nights =
    time_text stop.minute ++ (nights_text nights ++ stations_text stop.near stop.far)

-- the date of a day of the season
abbrev pub day_text : Term → ℕ → List ℕ
day_text season day = date_text (date_at season day).month (date_at season day).of_month

-- both dates of a period
abbrev pub dates_text : Term → Period → List ℕ
dates_text season period = day_text season period.first.0 ++ day_text season period.last.0

-- the fields, given the text of the period
abbrev pub fields_by : ℕ → Line → List ℕ → List ℕ → List ℕ → Option Stop → Option Stop →
    List (List ℕ)
fields_by code line period days seats None None = []
fields_by code line period days seats (Some coming) None =
    (code ∷ flight_text coming.flight) ∷ period ∷ days ∷ seats ∷ arrival_group_text coming
    ∷ (coming.service ∷ []) ∷ []
fields_by code line period days seats None (Some going) =
    (code ∷ []) ∷ flight_text going.flight ∷ period ∷ days ∷ seats ∷ departure_group_text going 0
    ∷ (going.service ∷ []) ∷ []
fields_by code line period days seats (Some coming) (Some going) =
    (code ∷ flight_text coming.flight) ∷ flight_text going.flight ∷ period ∷ days ∷ seats
    ∷ arrival_group_text coming ∷ departure_group_text going line.nights
    ∷ (coming.service ∷ going.service ∷ []) ∷ []

abbrev pub printed_fields : Code → Line → List ℕ → List (List ℕ)
printed_fields code line period =
    fields_by (code_letter code) line period (days_text line.period.days)
    (three_digits line.seats ++ line.craft.0) line.arrival line.departure

-- one blank between two fields
abbrev pub joined : List (List ℕ) → List ℕ
joined [] = []
joined (text ∷ []) = text
joined (text ∷ next ∷ fields) = text ++ (32 ∷ joined (next ∷ fields))

-- the text of a line with a code, where these are its movements
abbrev pub stops_text : Term → Code → Line → Option Stop → Option Stop → List ℕ
stops_text season code line arrival departure =
    joined (fields_by (code_letter code) line (dates_text season line.period)
    (days_text line.period.days) (three_digits line.seats ++ line.craft.0) arrival departure)

-- the printed line with a code: both dates of the period, seven places of weekdays
abbrev pub line_text : Term → Code → Line → List ℕ
line_text season code line = joined (printed_fields code line (dates_text season line.period))

-- ---- the lines of a message

-- the message, the season, the date of the message, and the airport
abbrev pub header_lines : Header → List (List ℕ)
header_lines header =
    codes "SCR" ∷ season_text header.season ∷ date_text header.month header.day
    ∷ header.airport.0 ∷ []

-- a line, the two lines of a pair, or Q and a flight
abbrev pub item_lines : Term → Item → List (List ℕ)
item_lines season (One line) = line_text season line.code line ∷ []
item_lines season (Pair changed asked) =
    line_text season changed.code changed ∷ line_text season asked.code asked ∷ []
item_lines season (Query flight) = (81 ∷ flight_text flight) ∷ []

-- the lines of an item, each with its LF
abbrev pub item_text : Term → Item → List ℕ
item_text season item = ended (item_lines season item)

abbrev pub items_lines : Term → List Placed → List (List ℕ)
items_lines season [] = []
items_lines season (placed ∷ items) = item_lines season placed.item ++ items_lines season items

abbrev pub message_lines : Message → List (List ℕ)
message_lines message =
    header_lines (header_of message) ++ items_lines message.season message.items

abbrev pub message_text : Message → List ℕ
message_text message = ended (message_lines message)

-- ---- what a line has that has a spelling

pub record FlightFits (flight : Flight) : Type 0 where
  pub airline : AirlineFits flight.airline
  pub number : flight.number < 10000
  pub suffix : SuffixFits flight.suffix

pub record StopFits (stop : Stop) : Type 0 where
  pub flight : FlightFits stop.flight
  pub minute : stop.minute < MINUTES_OF_DAY
  pub stations : StationsFit stop.near stop.far
  pub service : is_letter stop.service ≡ true

-- an arrival, a departure, or both; a departure is not before the arrival, and only with an arrival
-- nights lie between
abbrev pub StopsFit : Line → Option Stop → Option Stop → Type 0
StopsFit line None None = ⊥
StopsFit line (Some coming) None = StopFits coming × (line.nights ≡ 0)
StopsFit line None (Some going) = StopFits going × (line.nights ≡ 0)
StopsFit line (Some coming) (Some going) =
    StopFits coming × StopFits going × (line.nights < 10)
    × (coming.minute ≤ MINUTES_OF_DAY * line.nights + going.minute)

-- the line has a spelling, whatever its code: its period lies in the season, is not reversed, and
-- has a date on its weekdays
pub record LineFits (season : Term) (line : Line) : Type 0 where
  pub stops : StopsFit line line.arrival line.departure
  pub first : line.period.first.0 < date_count season
  pub last : line.period.last.0 < date_count season
  pub ordered : line.period.first.0 ≤ line.period.last.0
  pub week : line.period.days < 128
  pub dated : dates_of season line.period ≢ []
  pub seats : line.seats < 1000
  pub craft : ThreeLettersOrDigits line.craft.0

-- the codes that a line of an airline has
abbrev pub IsAsked : Code → Type 0
IsAsked code = code_of (code_letter code) ≡ Some code

-- a line that is printed with an airline's code is read again as the same line
abbrev pub PrintsBack : Term → Code → Line → Type 0
PrintsBack season code line =
    IsAsked code → LineFits season line →
    IsRow season (line_text season code line) (entry (record line { code = code }))

-- ---- what a message has that has a spelling

abbrev pub ItemFits : Term → Item → Type 0
ItemFits season (One line) = LineFits season line
ItemFits season (Pair changed asked) = LineFits season changed × LineFits season asked
ItemFits season (Query flight) = FlightFits flight

abbrev pub ItemsFit : Term → List Placed → Type 0
ItemsFit season [] = Unit {0}
ItemsFit season (placed ∷ items) = ItemFits season placed.item × ItemsFit season items

abbrev pub MessagesFit : List Message → Type 0
MessagesFit [] = Unit {0}
MessagesFit (message ∷ messages) = ItemsFit message.season message.items × MessagesFit messages
