-- What the lines of reasons show of the stages of a valid certificate.
use Rattle.std.specs.Prelude.{◌≡◌, ℕ, ◌≤◌, All, List, [], Some, IsSome, IfSome, slice_get}
use Rattle.season_days.specs.declared.declaration.Declaration.{Declaration}
use Rattle.series_model.specs.declared.unit.Unit.{Unit as SlotUnit}
use Rattle.series_model.specs.declared.times.Times.{Times}
use Rattle.series_model.specs.declared.state.UnitState.{UnitState}
use Rattle.season_report.specs.declared.barred.Barred.{Barred}
use Rattle.season_report.specs.declared.barred.Row.{Row}
use Rattle.report_lines.specs.Peaks.{over_lines}
use Rattle.season_report.specs.Reasons.{AllottedStage, units_in}
use Rattle.season_report.specs.Rows.{unit_rows}

-- a line that says by which resource its alternatives are barred
abbrev pub IsBarredRow : Row → Type 0
IsBarredRow row = IsSome row.barred

-- a resource that bars an alternative is used by it
abbrev pub UsesItsBar : Row → Type 0
UsesItsBar row = IfSome row.barred (λ (barred : Barred). 1 ≤ barred.uses)

-- so it is with all lines of all units of a stage
abbrev pub AllRows : (Row → Type 0) → AllottedStage → Type 0
AllRows P a =
    (place : ℕ) (unit : SlotUnit) (given : Times) →
    slice_get (units_in a) place ≡ Some unit → slice_get a.times place ≡ Some given →
    All P (unit_rows a place unit given)

-- no line says that its alternatives fit
abbrev pub NoneFits : AllottedStage → Type 0
NoneFits a = AllRows IsBarredRow a

-- some line says which window rules out all allotments of the stage
abbrev pub HasOverLine : Declaration → ℕ → List UnitState → Type 0
HasOverLine d stage states = over_lines d stage states ≡ [] → ⊥
