-- The generated season of a number and a count of units: what is declared, and what is requested.
use Rattle.std.specs.Prelude.{◌≡◌, ℕ, zero, suc, ◌+◌, ◌*◌, ◌/◌, ◌%◌, ◌==◌, if◌then◌else◌, List, [], ◌∷◌, Option, Some, None, codes}
use Rattle.slot_text.specs.declared.station.Station.{Station}
use Rattle.season_days.specs.Term.{Term}
use Rattle.season_days.specs.declared.season.Half.TheVariants.{Summer}
use Rattle.season_days.specs.declared.day.Period.{Period}
use Rattle.season_days.specs.declared.declaration.Declaration.{Declaration}
use Rattle.season_days.specs.declared.declaration.Rule.{Rule}
use Rattle.season_days.specs.declared.declaration.Kind.TheVariants.{Arr}
use Rattle.scr_reader.specs.declared.line.Code.{Code}
use Rattle.scr_reader.specs.declared.line.Code.TheVariants.{N, B, F}
use Rattle.scr_reader.specs.declared.line.Stop.{Stop}
use Rattle.scr_reader.specs.declared.line.Line.{Line}
use Rattle.scr_reader.specs.declared.line.Item.TheVariants.{One}
use Rattle.scr_reader.specs.declared.message.Placed.{Placed}
use Rattle.scr_reader.specs.declared.message.Message.{Message}
use Rattle.season_maker.specs.Draws.{drawn}

abbrev pub summer_2025 : Term
summer_2025 = record { half = Summer; year = 25 }

-- the airport
abbrev pub airport_abc : Station
airport_abc = record { 0 = codes "ABC" }

-- ---- what is declared

-- How many arrivals an hour may have: two more than the historic ones that it can hold. These are
-- 20 minutes apart, and come round again after every 192 units.
abbrev pub hourly_limit : ℕ → ℕ
hourly_limit units = 3 * ((units + 191) / 192) + 2

-- the hours that begin from 06:00 to 22:00, on all weekdays
abbrev pub hourly_arrivals : ℕ → Rule
hourly_arrivals units = record {
  kind = Arr;
  length = 60;
  from = 360;
  to = 1320;
  days = 127;
  limit = hourly_limit units;
}

-- each value of the declaration
pub record IsGeneratedDeclaration (units : ℕ) (d : Declaration) : Type 0 where
  pub airport : d.airport ≡ airport_abc
  pub season : d.season ≡ summer_2025
  pub step : d.step ≡ 5
  pub flex : d.flex ≡ 30
  pub ground_time : d.ground ≡ 40
  pub share : d.share ≡ 50
  pub refuse : d.refuse ≡ Some 60
  pub night : d.night ≡ None
  pub rules : d.rules ≡ hourly_arrivals units ∷ []

-- ---- what is requested. Units count from 0, and each is a line

-- daily from the season's first date, 30 March, to its last, 25 October
abbrev pub whole_season : Period
whole_season = record { first = record { 0 = 0 }; last = record { 0 = 209 }; days = 127 }

-- a flight of the airline XY or XZ from or to JFK, at a minute of the day, with the service letter
-- J
abbrev pub airline_xy : List ℕ
airline_xy = 88 ∷ 89 ∷ 0 ∷ []

abbrev pub airline_xz : List ℕ
airline_xz = 88 ∷ 90 ∷ 0 ∷ []

abbrev pub stop_of : List ℕ → ℕ → ℕ → Stop
stop_of airline unit minute = record {
  flight = record { airline = airline; number = 1000 + unit; suffix = 0 };
  minute = minute;
  near = record { 0 = codes "JFK" };
  far = None;
  service = 74;
}

abbrev pub line_of : Code → Option Stop → Option Stop → Line
line_of code arrival departure = record {
  code = code;
  arrival = arrival;
  departure = departure;
  nights = 0;
  period = whole_season;
  seats = 180;
  craft = record { 0 = codes "320" };
}

abbrev pub arrival_line : Code → ℕ → ℕ → Line
arrival_line code unit minute = line_of code (Some (stop_of airline_xy unit minute)) None

-- both flights have the same number
abbrev pub turnaround_line : ℕ → ℕ → ℕ → Line
turnaround_line unit arrival departure =
    line_of N (Some (stop_of airline_xy unit arrival)) (Some (stop_of airline_xz unit departure))

-- minutes by a draw: an arrival from 07:00 to 09:55, and from 45 to 100 minutes on the ground
abbrev pub minute_drawn : ℕ → ℕ → ℕ
minute_drawn number draw = 420 + 5 * drawn number draw 36

abbrev pub stay_drawn : ℕ → ℕ → ℕ
stay_drawn number draw = 45 + 5 * drawn number draw 12

-- A historic arrival, a new one, one of a new entrant, and a new turnaround, in turn. Draws are
-- made in the order of the units: a historic arrival needs none, the next three units need 1, 1 and
-- 2 of them. So the unit's own number is that of its draw, and a turnaround has the one after it
-- too.
abbrev pub unit_line : ℕ → ℕ → Line
unit_line number unit =
    if unit % 4 == 0 then arrival_line F unit (360 + 5 * (unit % 192))
    else (if unit % 4 == 1 then arrival_line N unit (minute_drawn number unit)
    else (if unit % 4 == 2 then arrival_line B unit (minute_drawn number unit)
    else turnaround_line unit (minute_drawn number unit)
    (minute_drawn number unit + stay_drawn number (unit + 1))))

-- behind the four lines of the header
abbrev pub placed_unit_line : ℕ → ℕ → Placed
placed_unit_line number unit = record { line = 5 + unit; item = One (unit_line number unit) }

-- so many units from a first one on
unfoldable pub placed_lines : ℕ → ℕ → ℕ → List Placed
placed_lines number first zero = []
placed_lines number first (suc count) =
    placed_unit_line number first ∷ placed_lines number (suc first) count

-- one message, of 20 November
abbrev pub generated_message : ℕ → ℕ → Message
generated_message number units = record {
  line = 2;
  season = summer_2025;
  day = 20;
  month = 11;
  airport = airport_abc;
  items = placed_lines number 0 units;
}
