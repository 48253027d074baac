-- Why a text is no list of messages, and why messages make no submission.
use Rattle.std.specs.Prelude.{◌≡◌, ◌⊎◌, ℕ, zero, suc, ◌-◌, ◌<◌, ◌≤◌, ◌==◌, if◌then◌else◌, List, [], ◌∷◌, ◌++◌, length, Option, Some, None, slice_get, slice_index_or, is_some, MatchBool, Err}
use Rattle.std.specs.Option.{option_map}
use Rattle.slot_text.specs.Lines.{lines_of}
use Rattle.slot_text.specs.Fields.{is_blank_line, begins_in_field, fields_of, field_at}
use Rattle.slot_text.specs.declared.station.Station.{Station}
use Rattle.choice_problem.specs.declared.problems.TheConstants.{MOST_UNITS}
use Rattle.season_days.specs.Term.{Term}
use Rattle.season_days.specs.Seasons.{season_text, NamesDate, IsDayNamed}
use Rattle.season_days.specs.declared.declaration.Declaration.{Declaration}
use Rattle.schedule_text.specs.Days.{IsDays}
use Rattle.scr_reader.specs.Messages.{has_address, season_place, ReadsAll}
use Rattle.scr_reader.specs.Parts.{code_of, date_text, IsDepartureGroup, IsNights}
use Rattle.scr_reader.specs.Rows.{trimmed, is_question}
use Rattle.scr_reader.specs.Shapes.{Shape, arrival, departure, turnaround, Part, code_and_flight, code_alone, departing_flight, dates, weekdays, seats_and_craft, arrival_group, departure_group, departure_group_with_nights, arrival_service, departure_service, both_services, shape_of, parts_of}
use Rattle.scr_reader.specs.declared.message.Message.{Message}
use Rattle.scr_reader.specs.declared.fault.ScrFault.{ScrFault}
use Rattle.scr_reader.specs.declared.fault.ScrFault.TheVariants as message_faults
use Rattle.series_model.specs.Submissions.{submission_answer}
use Rattle.series_model.specs.declared.fault.ModelFault.{ModelFault}
use Rattle.series_model.specs.declared.fault.ModelFault.TheVariants as model_faults
use Rattle.fault_causes.specs.Causes.{code_text}
use Rattle.fault_causes.specs.Capacities.{LineIs}
use Rattle.fault_causes.specs.declared.shape.Movements.{Movements}
use Rattle.fault_causes.specs.declared.shape.Movements.TheVariants as movements
use Rattle.fault_causes.specs.declared.cause.HeaderName.{HeaderName}
use Rattle.fault_causes.specs.declared.cause.HeaderName.TheVariants as headers
use Rattle.fault_causes.specs.declared.cause.FieldName.{FieldName}
use Rattle.fault_causes.specs.declared.cause.FieldName.TheVariants as fields
use Rattle.fault_causes.specs.declared.cause.Flaw.{Flaw}
use Rattle.fault_causes.specs.declared.cause.Flaw.TheVariants as flaws
use Rattle.fault_causes.specs.declared.cause.OtherCode.{OtherCode}
use Rattle.fault_causes.specs.declared.cause.Cause.{Cause}
use Rattle.fault_causes.specs.declared.cause.Cause.TheVariants as causes

-- ---- where a line stands in its message

-- the lines of its message that stand above a line: those since the last empty one
abbrev pub lines_since : List (List ℕ) → ℕ → List (List ℕ) → List (List ℕ)
lines_since before zero lines = before
lines_since before (suc n) [] = before
lines_since before (suc n) (line ∷ lines) =
    lines_since (if is_blank_line line then [] else before ++ line ∷ []) n lines

-- above the line of a number, counted from 1
abbrev pub lines_above : List ℕ → ℕ → List (List ℕ)
lines_above text number = lines_since [] (number - 1) (lines_of text)

-- the line of the season among them, without bytes where it is none of them
abbrev pub line_of_season : List (List ℕ) → List ℕ
line_of_season above = slice_index_or above (season_place above) []

-- ---- the header

abbrev pub header_line : ℕ → HeaderName
header_line zero = headers.Scr
header_line (suc zero) = headers.Season
header_line (suc (suc zero)) = headers.Date
header_line (suc (suc (suc n))) = headers.Airport

-- what the line below these has to be; an address is passed over
abbrev pub header_below : List (List ℕ) → HeaderName
header_below above = header_line (if has_address above then length above - 1 else length above)

-- ---- fields

-- the movements of a shape, as the code has them
abbrev pub shape_named : Movements → Shape
shape_named movements.Arrival = arrival
shape_named movements.Departure = departure
shape_named movements.Both = turnaround

-- a first field with a code and a flight: the code is bad where its first byte is none
abbrev pub first_name : List ℕ → FieldName
first_name [] = fields.Code
first_name (b ∷ text) = if is_some (code_of b) then fields.Flight else fields.Code

abbrev pub part_name : List ℕ → Part → FieldName
part_name first code_and_flight = first_name first
part_name first code_alone = fields.Code
part_name first departing_flight = fields.Flight
part_name first dates = fields.Period
part_name first weekdays = fields.Days
part_name first seats_and_craft = fields.Seats
part_name first arrival_group = fields.Arrival
part_name first departure_group = fields.Departure
part_name first departure_group_with_nights = fields.Departure
part_name first arrival_service = fields.Service
part_name first departure_service = fields.Service
part_name first both_services = fields.Service

abbrev pub first_word : List (List ℕ) → List ℕ
first_word [] = []
first_word (first ∷ rest) = first

-- the name of the field of a number, counted from 1; None behind the last
abbrev pub part_named : List (List ℕ) → ℕ → Option FieldName
part_named words n =
    option_map (part_name (first_word words)) (slice_get (parts_of (shape_of words)) (n - 1))

-- ---- dates

-- two digits and the name of a month, whatever date this month and day of the month are
abbrev pub HasDateForm : List ℕ → ℕ × ℕ → Type 0
HasDateForm text date = (1 ≤ date.0) × (date.0 ≤ 12) × (date.1 < 100)
    × (text ≡ date_text date.0 date.1)

-- the date exists in its year of the season, and it is a day of the season
abbrev pub IsRealDate : Term → ℕ × ℕ → Type 0
IsRealDate season date = NamesDate season date.0 date.1

abbrev pub IsInSeason : Term → ℕ × ℕ → Type 0
IsInSeason season date = (day : ℕ) × IsDayNamed season date.0 date.1 day

-- one date, which is the first and the last, or two
abbrev pub HaveDatesForm : List ℕ → ℕ × ℕ → ℕ × ℕ → Type 0
HaveDatesForm text first last =
    (HasDateForm text first × (last ≡ first))
    ⊎ ((front back : List ℕ) × HasDateForm front first × HasDateForm back last
    × (text ≡ front ++ back))

-- one of them does not exist; or one lies outside the season; or else the second is before the
-- first
abbrev pub IsDatesFlaw : Term → ℕ × ℕ → ℕ × ℕ → Flaw → Type 0
IsDatesFlaw season first last flaws.Date = IsRealDate season first × IsRealDate season last → ⊥
IsDatesFlaw season first last flaws.Outside = IsRealDate season first × IsRealDate season last
    × (IsInSeason season first × IsInSeason season last → ⊥)
IsDatesFlaw season first last flaws.Reversed = IsInSeason season first × IsInSeason season last
IsDatesFlaw season first last flaw = ⊥

abbrev pub IsPeriodFlaw : Term → List ℕ → Flaw → Type 0
IsPeriodFlaw season text flaw =
    ((flaw ≡ flaws.Form) × ((first last : ℕ × ℕ) → HaveDatesForm text first last → ⊥))
    ⊎ ((first last : ℕ × ℕ) × HaveDatesForm text first last × IsDatesFlaw season first last flaw)

-- ---- what is wrong with a field, where those before it are good

-- the field has the form, and a value that is not allowed, for which this word stands; or it has
-- not the form
abbrev pub IsFlawOrForm : Type 0 → Flaw → Flaw → Type 0
IsFlawOrForm HasItsForm word flaw =
    (HasItsForm × (flaw ≡ word)) ⊎ ((HasItsForm → ⊥) × (flaw ≡ flaws.Form))

abbrev pub NamesWeekdays : List ℕ → Type 0
NamesWeekdays text = (days : ℕ) × IsDays text days

-- a time, perhaps nights, and stations
abbrev pub IsGroup : List ℕ → Type 0
IsGroup text =
    (nights_text : List ℕ) × (near : Station) × (far : Option Station) × (minute nights : ℕ)
    × IsDepartureGroup text nights_text near far minute × IsNights nights_text nights

abbrev pub IsPartFlaw : Term → Shape → FieldName → List ℕ → Flaw → Type 0
IsPartFlaw season shape fields.Period text flaw = IsPeriodFlaw season text flaw
IsPartFlaw season shape fields.Days text flaw =
    IsFlawOrForm (NamesWeekdays text) flaws.Empty flaw
IsPartFlaw season turnaround fields.Departure text flaw =
    IsFlawOrForm (IsGroup text) flaws.Before flaw
IsPartFlaw season shape name text flaw = flaw ≡ flaws.Form

-- the field of a number, which has this name, is one too many, is missing, or is bad
abbrev pub IsPartCause : Term → Shape → ℕ → Option FieldName → Option (List ℕ) → Cause → Type 0
IsPartCause season shape n None text cause = cause ≡ causes.End n
IsPartCause season shape n (Some name) None cause = cause ≡ causes.Field n name flaws.Missing
IsPartCause season shape n (Some name) (Some text) cause =
    (flaw : Flaw) × IsPartFlaw season shape name text flaw × (cause ≡ causes.Field n name flaw)

-- of a question the flight, or a field too many
abbrev pub IsQuestionCause : ℕ → Cause → Type 0
IsQuestionCause n cause =
    MatchBool (n == 1) (cause ≡ causes.Field 1 fields.Flight flaws.Form) (cause ≡ causes.End n)

abbrev pub IsFieldsCause : Term → List (List ℕ) → ℕ → Cause → Type 0
IsFieldsCause season words n cause =
    MatchBool (is_question words) (IsQuestionCause n cause)
    (IsPartCause season (shape_of words) n (part_named words n) (field_at words n) cause)

-- a line that begins with a blank has that cause alone
abbrev pub IsFieldCause : Term → List ℕ → ℕ → Cause → Type 0
IsFieldCause season line n cause =
    MatchBool (begins_in_field line) (IsFieldsCause season (fields_of line) n cause)
    (cause ≡ causes.Blank)

-- ---- the cause of a fault

-- the season of the message
abbrev pub IsSeasonAbove : List ℕ → ℕ → Term → Type 0
IsSeasonAbove text number season =
    (season.year < 100) × (trimmed (line_of_season (lines_above text number)) ≡ season_text season)

abbrev pub IsMessageCause : List ℕ → ScrFault → Cause → Type 0
IsMessageCause text (message_faults.BadLine line field) cause =
    (season : Term) × IsSeasonAbove text line season
    × LineIs text line (λ l. IsFieldCause season l field cause)
IsMessageCause text (message_faults.BadHeader line) cause =
    cause ≡ causes.Header (header_below (lines_above text line))
IsMessageCause text (message_faults.Unpaired line) cause = cause ≡ causes.Unpaired
IsMessageCause text (message_faults.TooLong line) cause = cause ≡ causes.Long
IsMessageCause text message_faults.Memory cause = ⊥

-- the first byte of the line is its code
abbrev pub IsCodeCause : List ℕ → Cause → Type 0
IsCodeCause [] cause = ⊥
IsCodeCause (b ∷ line) cause =
    (code : OtherCode) × (b ∷ [] ≡ code_text code) × (cause ≡ causes.Code code)

abbrev pub IsSubmissionCause : List ℕ → ModelFault → Cause → Type 0
IsSubmissionCause text (model_faults.OtherSeason line) cause = cause ≡ causes.OtherSeason
IsSubmissionCause text (model_faults.OtherAirport line) cause = cause ≡ causes.OtherAirport
IsSubmissionCause text (model_faults.NotInitial line) cause =
    LineIs text line (λ l. IsCodeCause l cause)
IsSubmissionCause text (model_faults.TooMany units) cause = cause ≡ causes.Most MOST_UNITS
IsSubmissionCause text model_faults.Memory cause = ⊥

-- messages that the text spells have the fault under some declaration
abbrev pub HasSubmissionFault : List ℕ → ModelFault → Type 0
HasSubmissionFault text fault =
    (d : Declaration) × (messages : List Message) × ReadsAll text messages
    × (submission_answer d messages ≡ Err fault)
