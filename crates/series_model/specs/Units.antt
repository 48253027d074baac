-- Units: what is allotted as one. A line of group F, B or N is a unit, and so is a pair of a
-- historic line and its request.
use Rattle.std.specs.Prelude.{◌≡◌, ℕ, List, Option, Some, None, is_some, IsSomeAnd}
use Rattle.std.specs.Option.{option_map}
use Rattle.std.specs.List.{filter_map, flat_map}
use Rattle.season_days.specs.Term.{Term}
use Rattle.scr_reader.specs.declared.line.Line.{Line}
use Rattle.scr_reader.specs.declared.line.Code.{Code}
use Rattle.scr_reader.specs.declared.line.Code.TheVariants.{N, B, F, R}
use Rattle.scr_reader.specs.declared.line.Item.{Item}
use Rattle.scr_reader.specs.declared.line.Item.TheVariants.{One, Pair, Query}
use Rattle.scr_reader.specs.declared.message.Placed.{Placed}
use Rattle.scr_reader.specs.declared.message.Message.{Message}
use Rattle.scr_reader.specs.Printed.{LineFits}
use Rattle.series_model.specs.declared.group.Group.{Group}
use Rattle.series_model.specs.declared.group.Group.TheVariants.{F as group_f, R as group_r, L as group_l, B as group_b, N as group_n}
use Rattle.series_model.specs.declared.unit.Unit.{Unit as SlotUnit}

-- ---- which units a season's messages ask for

-- the group of a line that stands by itself; a line with another code makes no unit
abbrev pub group_of : Code → Option Group
group_of N = Some group_n
group_of B = Some group_b
group_of F = Some group_f
group_of code = None

-- the group of a pair, by the code of the line that asks for the change: R or L
abbrev pub pair_group : Code → Group
pair_group R = group_r
pair_group code = group_l

-- a line by itself, and a pair, on a line of the file
abbrev pub single_unit : ℕ → Line → Group → SlotUnit
single_unit number request group =
    record { line = number; group = group; request = request; historic = None }

abbrev pub pair_unit : ℕ → Line → Line → SlotUnit
pair_unit number historic request =
    record {
      line = number;
      group = pair_group request.code;
      request = request;
      historic = Some historic;
    }

-- the unit that an item makes; a question makes none
abbrev pub unit_of : ℕ → Item → Option SlotUnit
unit_of number (One request) = option_map (single_unit number request) (group_of request.code)
unit_of number (Pair historic request) = Some (pair_unit number historic request)
unit_of number (Query flight) = None

abbrev pub placed_unit : Placed → Option SlotUnit
placed_unit placed = unit_of placed.line placed.item

-- the units of a message, and of all messages, in the order of their lines
abbrev pub message_units : Message → List SlotUnit
message_units message = filter_map placed_unit message.items

abbrev pub units_of : List Message → List SlotUnit
units_of messages = flat_map message_units messages

-- ---- what the lines of a unit have

-- the line that a request changes: it has a spelling, the same movements, and the same period and
-- weekdays
pub record IsHistoric (season : Term) (request historic : Line) : Type 0 where
  pub fits : LineFits season historic
  pub arrivals : is_some historic.arrival ≡ is_some request.arrival
  pub departures : is_some historic.departure ≡ is_some request.departure
  pub period : request.period ≡ historic.period

-- exactly the groups R and L have a historic line
abbrev pub HistoricFits : Term → Line → Group → Option Line → Type 0
HistoricFits season request group_f historic = historic ≡ None
HistoricFits season request group_r historic = IsSomeAnd historic (IsHistoric season request)
HistoricFits season request group_l historic = IsSomeAnd historic (IsHistoric season request)
HistoricFits season request group_b historic = historic ≡ None
HistoricFits season request group_n historic = historic ≡ None

-- a unit whose lines have a spelling in the season
pub record UnitFits (season : Term) (unit : SlotUnit) : Type 0 where
  pub request : LineFits season unit.request
  pub historic : HistoricFits season unit.request unit.group unit.historic
