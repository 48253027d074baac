-- The three shapes of a data line, what each field says about the line, and the first field that
-- says nothing.
use Rattle.std.specs.Prelude.{◌≡◌, ◌≢◌, ℕ, ◌+◌, ◌-◌, ◌*◌, ◌<◌, ◌≤◌, Bool, true, ◌==◌, if◌then◌else◌, List, [], ◌∷◌, length, take, Option, Some, None, IsSomeAnd, IsSome}
use Rattle.schedule_text.specs.Days.{IsDays}
use Rattle.slot_text.specs.Fields.{field_at}
use Rattle.slot_text.specs.declared.station.Station.{Station}
use Rattle.scr_reader.specs.declared.line.Flight.{Flight}
use Rattle.scr_reader.specs.declared.line.Code.{Code}
use Rattle.season_days.specs.Term.{Term}
use Rattle.season_days.specs.declared.declaration.TheConstants.{MINUTES_OF_DAY}
use Rattle.season_days.specs.declared.day.Period.{Period}
use Rattle.season_days.specs.Seasons.{dates_of}
use Rattle.scr_reader.specs.Bytes.{is_letter}
use Rattle.scr_reader.specs.Parts.{code_of, IsFlight, begins_with_flight, IsPeriod, IsSeats, IsArrivalGroup, IsDepartureGroup, IsNights}
use Rattle.scr_reader.specs.declared.line.Line.{Line}
use Rattle.scr_reader.specs.declared.line.Stop.{Stop}

pub data Shape : Type 0 where
  arrival : Shape
  departure : Shape
  turnaround : Shape

-- what a field is for
pub data Part : Type 0 where
  code_and_flight : Part
  code_alone : Part
  departing_flight : Part
  dates : Part
  weekdays : Part
  seats_and_craft : Part
  arrival_group : Part
  departure_group : Part
  departure_group_with_nights : Part
  arrival_service : Part
  departure_service : Part
  both_services : Part

-- the fields of a line, in order
abbrev pub parts_of : Shape → List Part
parts_of arrival =
    code_and_flight ∷ dates ∷ weekdays ∷ seats_and_craft ∷ arrival_group ∷ arrival_service ∷ []
parts_of departure =
    code_alone ∷ departing_flight ∷ dates ∷ weekdays ∷ seats_and_craft ∷ departure_group
    ∷ departure_service ∷ []
parts_of turnaround =
    code_and_flight ∷ departing_flight ∷ dates ∷ weekdays ∷ seats_and_craft ∷ arrival_group
    ∷ departure_group_with_nights ∷ both_services ∷ []

-- a first field of one byte makes a departure; else a second field that begins as a flight does
-- makes a turnaround
abbrev pub is_one_byte : List ℕ → Bool
is_one_byte text = length text == 1

abbrev pub shape_of_rest : List (List ℕ) → Shape
shape_of_rest [] = arrival
shape_of_rest (second ∷ fields) = if begins_with_flight second then turnaround else arrival

abbrev pub shape_of : List (List ℕ) → Shape
shape_of [] = arrival
shape_of (first ∷ fields) = if is_one_byte first then departure else shape_of_rest fields

-- the movements that a line of the shape has; only a turnaround has nights
abbrev pub HasShape : Shape → Line → Type 0
HasShape arrival line = IsSome line.arrival × (line.departure ≡ None) × (line.nights ≡ 0)
HasShape departure line = (line.arrival ≡ None) × IsSome line.departure × (line.nights ≡ 0)
HasShape turnaround line = IsSome line.arrival × IsSome line.departure

-- a letter for the service of a movement
abbrev pub IsService : List ℕ → Stop → Type 0
IsService text stop = (is_letter stop.service ≡ true) × (text ≡ stop.service ∷ [])

abbrev pub IsBothServices : List ℕ → Stop → Stop → Type 0
IsBothServices text coming going =
    (is_letter coming.service ≡ true) × (is_letter going.service ≡ true)
    × (text ≡ coming.service ∷ going.service ∷ [])

-- a code and a flight, and a code alone
abbrev pub IsCodeAndFlight : List ℕ → Code → Flight → Type 0
IsCodeAndFlight [] code flight = ⊥
IsCodeAndFlight (b ∷ text) code flight = (code_of b ≡ Some code) × IsFlight text flight

abbrev pub IsCodeAlone : List ℕ → Code → Type 0
IsCodeAlone [] code = ⊥
IsCodeAlone (b ∷ text) code = (code_of b ≡ Some code) × (text ≡ [])

-- a departure group, which may name nights, of a departure that isn't before a minute of the
-- arrival's day
pub record IsLaterGroup (text : List ℕ) (earliest : ℕ) (near : Station) (far : Option Station)
    (minute nights : ℕ) : Type 0 where
  pub nights_text : List ℕ
  pub group : IsDepartureGroup text nights_text near far minute
  pub nights_said : IsNights nights_text nights
  pub later : earliest ≤ MINUTES_OF_DAY * nights + minute

-- two fields name the period: its dates, and weekdays on which it has a date
pub record NamesPeriod (season : Term) (dates_text days_text : List ℕ) (period : Period) : Type 0
  where
    pub named : IsPeriod season dates_text period.first.0 period.last.0
    pub days_named : IsDays days_text period.days
    pub dated : dates_of season period ≢ []

-- what a field says about its line
abbrev pub Says : Term → Part → List ℕ → Line → Type 0
Says season code_and_flight text line =
    IsSomeAnd line.arrival (λ stop. IsCodeAndFlight text line.code stop.flight)
Says season code_alone text line = IsCodeAlone text line.code
Says season departing_flight text line =
    IsSomeAnd line.departure (λ stop. IsFlight text stop.flight)
Says season dates text line = IsPeriod season text line.period.first.0 line.period.last.0
Says season weekdays text line = IsDays text line.period.days × (dates_of season line.period ≢ [])
Says season seats_and_craft text line = IsSeats text line.seats line.craft.0
Says season arrival_group text line =
    IsSomeAnd line.arrival (λ stop. IsArrivalGroup text stop.near stop.far stop.minute)
Says season departure_group text line =
    IsSomeAnd line.departure (λ stop. IsDepartureGroup text [] stop.near stop.far stop.minute)
Says season departure_group_with_nights text line =
    IsSomeAnd line.arrival (λ coming. IsSomeAnd line.departure
    (λ going. IsLaterGroup text coming.minute going.near going.far going.minute line.nights))
Says season arrival_service text line = IsSomeAnd line.arrival (IsService text)
Says season departure_service text line = IsSomeAnd line.departure (IsService text)
Says season both_services text line =
    IsSomeAnd line.arrival (λ coming. IsSomeAnd line.departure (IsBothServices text coming))

-- the field of the number, counted from 1, is there and is so
abbrev pub At : List (List ℕ) → ℕ → (List ℕ → Type 0) → Type 0
At fields n Has = IsSomeAnd (field_at fields n) Has

-- each of these parts is there and says what the line is; further fields aren't looked at
abbrev pub Agree : Term → List Part → List (List ℕ) → Line → Type 0
Agree season [] fields line = Unit {0}
Agree season (part ∷ parts) [] line = ⊥
Agree season (part ∷ parts) (text ∷ fields) line =
    Says season part text line × Agree season parts fields line

-- the line has the shape, and the first fields, so many, say what it is
pub record AgreesUpTo (season : Term) (fields : List (List ℕ)) (count : ℕ) (line : Line) : Type 0
  where
    pub shape : HasShape (shape_of fields) line
    pub said : Agree season (take count (parts_of (shape_of fields))) fields line

abbrev pub part_count : List (List ℕ) → ℕ
part_count fields = length (parts_of (shape_of fields))

-- the fields spell the line
pub record IsLine (season : Term) (fields : List (List ℕ)) (line : Line) : Type 0 where
  pub agrees : AgreesUpTo season fields (part_count fields) line
  pub count : length fields ≡ part_count fields

-- The first field that has not its form, counted from 1: some line agrees with all fields before
-- it, and none with it too, unless it is the first of too many.
pub record IsFaultyField (season : Term) (fields : List (List ℕ)) (field : ℕ) : Type 0 where
  pub good : Line
  pub before : AgreesUpTo season fields (field - 1) good
  pub at : (line : Line) → AgreesUpTo season fields field line →
      (field ≡ part_count fields + 1) × (part_count fields < length fields)
