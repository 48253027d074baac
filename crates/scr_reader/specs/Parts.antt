-- The parts of a data line: what a field has to be to say a value.
use Rattle.std.specs.Prelude.{◌≡◌, ◌⊎◌, ℕ, zero, suc, ◌+◌, ◌-◌, ◌*◌, ◌<◌, ◌≤◌, Bool, true, false, ◌&&◌, ◌||◌, ◌==◌, if◌then◌else◌, List, [], ◌∷◌, ◌++◌, length, fold, slice_index_or, Option, Some, None, codes, pos}
use Rattle.schedule_text.specs.Times.{digit, two_digits, time_text}
use Rattle.jiff_core.specs.Calendar.{days_in_month}
use Rattle.scr_reader.specs.Bytes.{is_letter, is_digit, is_letter_or_digit, three_digits}
use Rattle.season_days.specs.Term.{Term}
use Rattle.season_days.specs.declared.declaration.TheConstants.{MINUTES_OF_DAY}
use Rattle.season_days.specs.Seasons.{IsDayNamed}
use Rattle.slot_text.specs.Stations.{IsStation}
use Rattle.slot_text.specs.declared.station.Station.{Station}
use Rattle.scr_reader.specs.declared.line.Flight.{Flight}
use Rattle.scr_reader.specs.declared.line.Code.{Code}
use Rattle.scr_reader.specs.declared.line.Code.TheVariants.{N, B, F, C, R, L, D, A, Z}

-- ---- codes

-- what a letter asks; Y, V and I, which speak of the whole year, are read as N, B and R
abbrev pub code_of : ℕ → Option Code
code_of b =
    if (b == 78) || (b == 89) then Some N
    else (if (b == 66) || (b == 86) then Some B
    else (if b == 70 then Some F
    else (if b == 67 then Some C
    else (if (b == 82) || (b == 73) then Some R
    else (if b == 76 then Some L
    else (if b == 68 then Some D
    else (if b == 65 then Some A
    else (if b == 90 then Some Z else None))))))))

-- ---- flights

-- two bytes of which one is a letter and each a letter or a digit, or three letters
abbrev pub AirlineFits : List ℕ → Type 0
AirlineFits (a ∷ b ∷ zero ∷ []) =
    ((is_letter_or_digit a && is_letter_or_digit b) && (is_letter a || is_letter b)) ≡ true
AirlineFits (a ∷ b ∷ suc c ∷ []) = ((is_letter a && is_letter b) && is_letter (suc c)) ≡ true
AirlineFits airline = ⊥

-- an airline of two bytes has 0 as its third
abbrev pub airline_text : List ℕ → List ℕ
airline_text (a ∷ b ∷ zero ∷ []) = a ∷ b ∷ []
airline_text airline = airline

abbrev pub are_digits : List ℕ → Bool
are_digits [] = true
are_digits (b ∷ text) = is_digit b && are_digits text

-- the number that digits name, with zeros in front or without
abbrev pub flight_number_of : List ℕ → ℕ
flight_number_of text = fold (λ n b. 10 * n + (b - 48)) 0 text

-- one to four digits that name the number
pub record NamesNumber (text : List ℕ) (number : ℕ) : Type 0 where
  pub digits : are_digits text ≡ true
  pub some : 1 ≤ length text
  pub most : length text ≤ 4
  pub named : number ≡ flight_number_of text

-- a letter, or none, which stands as 0
abbrev pub SuffixFits : ℕ → Type 0
SuffixFits zero = Unit {0}
SuffixFits (suc s) = is_letter (suc s) ≡ true

abbrev pub suffix_text : ℕ → List ℕ
suffix_text zero = []
suffix_text (suc s) = suc s ∷ []

-- the text names the flight: its airline, one to four digits, and perhaps a letter
pub record IsFlight (text : List ℕ) (flight : Flight) : Type 0 where
  pub digits : List ℕ
  pub airline : AirlineFits flight.airline
  pub number : NamesNumber digits flight.number
  pub suffix : SuffixFits flight.suffix
  pub spelled : text ≡ airline_text flight.airline ++ (digits ++ suffix_text flight.suffix)

-- whether a text begins as a flight does: an airline, whose third byte decides whether it has three
-- letters, and a digit
abbrev pub begins_with_flight : List ℕ → Bool
begins_with_flight (a ∷ b ∷ c ∷ d ∷ text) =
    if is_letter c then ((is_letter a && is_letter b) && is_digit d)
    else (((is_letter_or_digit a && is_letter_or_digit b) && (is_letter a || is_letter b))
    && is_digit c)
begins_with_flight (a ∷ b ∷ c ∷ []) =
    ((is_letter_or_digit a && is_letter_or_digit b) && (is_letter a || is_letter b)) && is_digit c
begins_with_flight text = false

-- ---- dates and periods

abbrev pub month_names : List (List ℕ)
month_names =
    codes "JAN" ∷ codes "FEB" ∷ codes "MAR" ∷ codes "APR" ∷ codes "MAY" ∷ codes "JUN" ∷ codes "JUL"
    ∷ codes "AUG" ∷ codes "SEP" ∷ codes "OCT" ∷ codes "NOV" ∷ codes "DEC" ∷ []

-- the name of a month from 1 to 12
abbrev pub month_text : ℕ → List ℕ
month_text month = slice_index_or month_names (month - 1) []

-- two digits of the day, and the name of the month
abbrev pub date_text : ℕ → ℕ → List ℕ
date_text month of_month = two_digits of_month ++ month_text month

-- a day that the month has, in a year that has a 29th of February
pub record IsDayOfMonth (month day : ℕ) : Type 0 where
  pub month_from : 1 ≤ month
  pub month_to : month ≤ 12
  pub day_from : 1 ≤ day
  pub day_to : day ≤ days_in_month (pos 2000) month

-- the text names this day of the season
abbrev pub SpellsDay : Term → List ℕ → ℕ → Type 0
SpellsDay season text day =
    (month of_month : ℕ) × IsDayNamed season month of_month day × (text ≡ date_text month of_month)

-- the text is two dates
pub record IsTwoDays (season : Term) (text : List ℕ) (first last : ℕ) : Type 0 where
  pub first_text : List ℕ
  pub last_text : List ℕ
  pub first_day : SpellsDay season first_text first
  pub last_day : SpellsDay season last_text last
  pub spelled : text ≡ first_text ++ last_text

-- two dates, of which the second isn't before the first, or one date that is both
pub record IsPeriod (season : Term) (text : List ℕ) (first last : ℕ) : Type 0 where
  pub dates : IsTwoDays season text first last ⊎ (SpellsDay season text first × (last ≡ first))
  pub ordered : first ≤ last

-- ---- seats and craft, stations, times

abbrev pub ThreeLettersOrDigits : List ℕ → Type 0
ThreeLettersOrDigits (a ∷ b ∷ c ∷ []) =
    ((is_letter_or_digit a && is_letter_or_digit b) && is_letter_or_digit c) ≡ true
ThreeLettersOrDigits text = ⊥

pub record IsSeats (text : List ℕ) (seats : ℕ) (craft : List ℕ) : Type 0 where
  pub few : seats < 1000
  pub kind : ThreeLettersOrDigits craft
  pub spelled : text ≡ three_digits seats ++ craft

abbrev pub StationsFit : Station → Option Station → Type 0
StationsFit near None = IsStation near.0
StationsFit near (Some far) = IsStation near.0 × IsStation far.0

-- one station, or a first and a second
abbrev pub stations_text : Station → Option Station → List ℕ
stations_text near None = near.0
stations_text near (Some far) = near.0 ++ far.0

-- stations, then a time
pub record IsArrivalGroup (text : List ℕ) (near : Station) (far : Option Station) (minute : ℕ) :
    Type 0 where
  pub stations : StationsFit near far
  pub time : minute < MINUTES_OF_DAY
  pub spelled : text ≡ stations_text near far ++ time_text minute

-- nothing for no nights, or one digit
abbrev pub IsNights : List ℕ → ℕ → Type 0
IsNights text nights = ((text ≡ []) × (nights ≡ 0)) ⊎ ((nights < 10) × (text ≡ digit nights ∷ []))

-- a time, then what is said of nights, then stations
pub record IsDepartureGroup (text nights_text : List ℕ) (near : Station) (far : Option Station)
    (minute : ℕ) : Type 0 where
  pub stations : StationsFit near far
  pub time : minute < MINUTES_OF_DAY
  pub spelled : text ≡ time_text minute ++ (nights_text ++ stations_text near far)
