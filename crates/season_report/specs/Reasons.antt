-- Why a unit was not given a cheaper alternative: the lowest window that would be above its limit
-- while all other units of the stage keep theirs, or that there is none.
use Rattle.std.specs.Prelude.{ℕ, suc, ◌+◌, Bool, nat_lt, List, [], ◌∷◌, ◌++◌, filter, map, take, drop, count_by, Option, Some, None}
use Rattle.std.specs.List.{range_with_len, list_any}
use Rattle.season_days.specs.Seasons.{dates_of}
use Rattle.season_days.specs.declared.declaration.Declaration.{Declaration}
use Rattle.scr_reader.specs.declared.line.Line.{Line}
use Rattle.capacity_windows.specs.Windows.{Capacity, capacity_of, declared_resources, resource_at, holds}
use Rattle.capacity_windows.specs.declared.movement.Movement.{Movement}
use Rattle.series_model.specs.declared.unit.Unit.{Unit as SlotUnit}
use Rattle.series_model.specs.declared.times.Times.{Times}
use Rattle.series_model.specs.declared.times.Times.TheVariants.{Refused, At}
use Rattle.series_model.specs.declared.state.UnitState.{UnitState}
use Rattle.series_model.specs.Options.{options_of}
use Rattle.series_model.specs.Movements.{movements_on}
use Rattle.series_model.specs.Displacement.{displacement_of}
use Rattle.series_model.specs.Allotments.{allotted_load}
use Rattle.series_model.specs.Stages.{stage_units, stage_limit}
use Rattle.season_report.specs.declared.barred.Barred.{Barred}
use Rattle.season_report.specs.declared.barred.Cheaper.{Cheaper}
use Rattle.report_lines.specs.Peaks.{unit_load}

-- ---- a stage and its allotment

-- the units before the stage, and the times that it gave its own units
pub record AllottedStage : Type 0 where
  pub declaration : Declaration
  pub stage : ℕ
  pub states : List UnitState
  pub times : List Times

abbrev pub units_in : AllottedStage → List SlotUnit
units_in a = stage_units a.stage a.states

abbrev pub limit_in : AllottedStage → ℕ → ℕ
limit_in a r = stage_limit a.declaration a.stage a.states r

abbrev pub all_resources : AllottedStage → List ℕ
all_resources a = range_with_len 0 (declared_resources (capacity_of a.declaration))

-- ---- the load without one of the units, which has this place among them

abbrev pub without : {X : Type 0} → ℕ → List X → List X
without place xs = take place xs ++ drop (suc place) xs

abbrev pub others_load : AllottedStage → ℕ → ℕ → ℕ
others_load a place r =
    allotted_load a.declaration (without place (units_in a)) (without place a.times) r

-- ---- an alternative passes a resource where both together are above the limit

abbrev pub is_passed : AllottedStage → ℕ → SlotUnit → Times → ℕ → Bool
is_passed a place unit times r =
    nat_lt (limit_in a r) (others_load a place r + unit_load a.declaration unit times r)

-- all that it passes, in rising order
abbrev pub passed_by : AllottedStage → ℕ → SlotUnit → Times → List ℕ
passed_by a place unit times = filter (is_passed a place unit times) (all_resources a)

-- ---- on how many dates

-- some resource that is passed holds the movement
abbrev pub is_held_by : Capacity → List ℕ → Movement → Bool
is_held_by c resources movement = list_any (λ r. holds c (resource_at c r) movement) resources

-- one of the movements on a date of a line
abbrev pub is_barred_on : Declaration → Line → ℕ → ℕ → List ℕ → ℕ → Bool
is_barred_on d line arrival departure resources date =
    list_any (is_held_by (capacity_of d) resources)
    (movements_on d.season line arrival departure date)

abbrev pub barred_dates : Declaration → Line → Times → List ℕ → ℕ
barred_dates d line Refused resources = 0
barred_dates d line (At arrival departure) resources =
    count_by (is_barred_on d line arrival departure resources) (dates_of d.season line.period)

-- ---- the reason: the lowest resource that is passed, how often the alternative uses that, and on
-- how many dates of the request it is barred; none where it passes nothing

abbrev pub barred_by : Declaration → SlotUnit → Times → List ℕ → Option Barred
barred_by d unit times [] = None
barred_by d unit times (r ∷ resources) =
    Some (record {
      resource = r;
      uses = unit_load d unit times r;
      dates = barred_dates d unit.request times (r ∷ resources);
    })

abbrev pub bar_of : AllottedStage → ℕ → SlotUnit → Times → Option Barred
bar_of a place unit times =
    barred_by a.declaration unit times (passed_by a place unit times)

-- ---- the alternatives that cost less than the one that was given, each with its reason

abbrev pub is_cheaper : Declaration → SlotUnit → Times → Times → Bool
is_cheaper d unit given times =
    nat_lt (displacement_of d unit times) (displacement_of d unit given)

abbrev pub cheaper_of : AllottedStage → ℕ → SlotUnit → Times → Cheaper
cheaper_of a place unit times = record {
  times = times;
  cost = displacement_of a.declaration unit times;
  barred = bar_of a place unit times;
}

abbrev pub cheaper_than : AllottedStage → ℕ → SlotUnit → Times → List Cheaper
cheaper_than a place unit given =
    map (cheaper_of a place unit)
    (filter (is_cheaper a.declaration unit given) (options_of a.declaration unit))
