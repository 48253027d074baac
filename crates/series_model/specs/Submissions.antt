-- A season's submission: what it is made of, what of the messages is refused, and in which order.
use Rattle.std.specs.Prelude.{◌≡◌, ℕ, ◌+◌, ◌<◌, ◌≤◌, ◌^◌, ◌==◌, ◌&&◌, Bool, true, false, nat_lt, if◌then◌else◌, is_none, List, [], ◌∷◌, length, All, Option, Some, None, Result, Ok, Err, sum_by}
use Rattle.std.specs.Option.{option_or}
use Rattle.slot_text.specs.declared.station.Station.{Station}
use Rattle.choice_problem.specs.declared.problems.TheConstants.{MOST_UNITS}
use Rattle.season_days.specs.Term.{Term}
use Rattle.season_days.specs.Capacity.{Capacity, capacity_of, IsDeclaration}
use Rattle.season_days.specs.declared.season.Half.{Half}
use Rattle.season_days.specs.declared.season.Half.TheVariants.{Summer, Winter}
use Rattle.season_days.specs.declared.declaration.Declaration.{Declaration}
use Rattle.scr_reader.specs.Messages.{AsksChange}
use Rattle.scr_reader.specs.declared.line.Item.{Item}
use Rattle.scr_reader.specs.declared.line.Item.TheVariants.{One, Pair, Query}
use Rattle.scr_reader.specs.declared.message.Placed.{Placed}
use Rattle.scr_reader.specs.declared.message.Message.{Message}
use Rattle.series_model.specs.declared.fault.ModelFault.{ModelFault}
use Rattle.series_model.specs.declared.fault.ModelFault.TheVariants.{OtherSeason, OtherAirport, NotInitial, TooMany}
use Rattle.series_model.specs.declared.unit.Unit.{Unit as SlotUnit}
use Rattle.series_model.specs.Units.{placed_unit, message_units, units_of, UnitFits}

-- ---- tests of a header

abbrev pub is_half : Half → Half → Bool
is_half Summer Summer = true
is_half Summer Winter = false
is_half Winter Summer = false
is_half Winter Winter = true

abbrev pub is_season : Term → Term → Bool
is_season one other = is_half one.half other.half && one.year == other.year

-- letter by letter
abbrev pub are_letters : List ℕ → List ℕ → Bool
are_letters [] [] = true
are_letters [] (letter ∷ others) = false
are_letters (letter ∷ letters) [] = false
are_letters (letter ∷ letters) (other ∷ others) = letter == other && are_letters letters others

abbrev pub is_station : Station → Station → Bool
is_station one other = are_letters one.0 other.0

-- ---- what is refused

-- the first item that makes no unit: a line with another code than F, B or N, or a question
abbrev pub item_fault : Placed → Option ModelFault
item_fault placed = if is_none (placed_unit placed) then Some (NotInitial placed.line) else None

abbrev pub items_fault : List Placed → Option ModelFault
items_fault [] = None
items_fault (placed ∷ items) = option_or (item_fault placed) (items_fault items)

-- another season, on the season's line; another airport, two lines below; and then the items
abbrev pub message_fault : Declaration → Message → Option ModelFault
message_fault declaration message =
    if is_season message.season declaration.season
    then (if is_station message.airport declaration.airport then items_fault message.items
    else Some (OtherAirport (message.line + 2)))
    else Some (OtherSeason message.line)

-- the fault of the first message that has one; messages stand in the order of their lines
abbrev pub first_fault : Declaration → List Message → Option ModelFault
first_fault declaration [] = None
first_fault declaration (message ∷ messages) =
    option_or (message_fault declaration message) (first_fault declaration messages)

-- and where no line is refused, too many units
abbrev pub too_many : ℕ → Option ModelFault
too_many units = if nat_lt MOST_UNITS units then Some (TooMany units) else None

abbrev pub refusal : Declaration → List Message → Option ModelFault
refusal declaration messages =
    option_or (first_fault declaration messages) (too_many (length (units_of messages)))

-- ---- what messages have that were read

-- a pair is a historic line and a line that asks to change it
abbrev pub ItemPairs : Item → Type 0
ItemPairs (One line) = Unit {0}
ItemPairs (Pair historic request) = AsksChange historic request
ItemPairs (Query flight) = Unit {0}

abbrev pub PlacedPairs : Placed → Type 0
PlacedPairs placed = ItemPairs placed.item

abbrev pub MessagePairs : Message → Type 0
MessagePairs message = All PlacedPairs message.items

-- the lines of a message are below the greatest number
abbrev pub HasNumbers : Message → Type 0
HasNumbers message = message.line + 2 < 2 ^ 32

abbrev pub item_count : List Message → ℕ
item_count messages = sum_by (λ message. length message.items) messages

-- ---- submissions

pub record SubmissionView : Type 0 where
  pub declaration : Declaration
  pub units : List SlotUnit
  pub messages : List Message

-- the units of these messages
abbrev pub submission_of : Declaration → List Message → SubmissionView
submission_of declaration messages =
    record { declaration = declaration; units = units_of messages; messages = messages }

-- the first refusal that is due, or else the submission
abbrev pub answer_by : Option ModelFault → SubmissionView → Result SubmissionView ModelFault
answer_by None submission = Ok submission
answer_by (Some fault) submission = Err fault

abbrev pub submission_answer : Declaration → List Message → Result SubmissionView ModelFault
submission_answer declaration messages =
    answer_by (refusal declaration messages) (submission_of declaration messages)

-- each item of the message makes a unit
abbrev pub MakesUnits : Message → Type 0
MakesUnits message = length (message_units message) ≡ length message.items

-- what a submission keeps: the limits of its declaration, the windows of that, and the units of its
-- messages, one an item, which have a spelling
pub record IsSubmission (s : SubmissionView) (windows : Capacity) : Type 0 where
  pub keeps : IsDeclaration s.declaration
  pub declared : windows ≡ capacity_of s.declaration
  pub units : s.units ≡ units_of s.messages
  pub one_each : All MakesUnits s.messages
  pub few : length s.units ≤ MOST_UNITS
  pub fits : All (UnitFits s.declaration.season) s.units
