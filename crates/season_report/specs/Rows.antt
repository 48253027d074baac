-- The lines of reasons: neighbours with the same reason are one line.
use Rattle.std.specs.Prelude.{ℕ, suc, ◌+◌, ◌==◌, Bool, true, false, ◌&&◌, ◌||◌, not, min, if◌then◌else◌, is_some, List, [], ◌∷◌, ◌++◌, Option, Some, None, codes}
use Rattle.std.specs.Fmt.{decimal}
use Rattle.std.specs.List.{flat_map}
use Rattle.season_days.specs.declared.declaration.Declaration.{Declaration}
use Rattle.scr_reader.specs.declared.line.Line.{Line}
use Rattle.capacity_windows.specs.Windows.{Capacity, capacity_of}
use Rattle.series_model.specs.declared.unit.Unit.{Unit as SlotUnit}
use Rattle.series_model.specs.declared.times.Times.{Times}
use Rattle.series_model.specs.declared.times.Times.TheVariants.{Refused, At}
use Rattle.series_model.specs.declared.state.UnitState.{UnitState}
use Rattle.series_model.specs.Stages.{stage_times, is_due_state}
use Rattle.season_report.specs.declared.barred.Barred.{Barred}
use Rattle.season_report.specs.declared.barred.Cheaper.{Cheaper}
use Rattle.season_report.specs.declared.barred.Row.{Row}
use Rattle.report_lines.specs.Words.{times_words, resource_words}
use Rattle.report_lines.specs.Peaks.{earlier_load}
use Rattle.season_report.specs.Reasons.{AllottedStage, limit_in, others_load, cheaper_than}

-- ---- which neighbours are one line

-- both fit, or both are barred by the same resource, which they use as often
abbrev pub are_barred_alike : Option Barred → Option Barred → Bool
are_barred_alike None None = true
are_barred_alike None (Some other) = false
are_barred_alike (Some one) None = false
are_barred_alike (Some one) (Some other) =
    one.resource == other.resource && one.uses == other.uses

-- in a turnaround the same arrival; a refusal stands alone
abbrev pub are_near : Line → Times → Times → Bool
are_near line Refused times = false
are_near line (At arrival departure) Refused = false
are_near line (At arrival departure) (At other later) =
    not (is_some line.arrival && is_some line.departure) || arrival == other

abbrev pub joins : Line → Row → Cheaper → Bool
joins line row next = are_near line row.last next.times && are_barred_alike row.barred next.barred

-- ---- lines

abbrev pub one_row : Cheaper → Row
one_row next = record {
  first = next.times;
  last = next.times;
  count = 1;
  cost = next.cost;
  barred = next.barred;
}

-- the fewer dates
abbrev pub with_dates : Option Barred → Option Barred → Option Barred
with_dates (Some one) (Some other) = Some (record one { dates = min one.dates other.dates })
with_dates one other = one

abbrev pub with_next : Row → Cheaper → Row
with_next row next = record row {
  last = next.times;
  count = row.count + 1;
  cost = min row.cost next.cost;
  barred = with_dates row.barred next.barred;
}

abbrev pub rows_from : Line → Row → List Cheaper → List Row
rows_from line row [] = row ∷ []
rows_from line row (next ∷ others) =
    if joins line row next then rows_from line (with_next row next) others
    else row ∷ rows_from line (one_row next) others

abbrev pub rows_of : Line → List Cheaper → List Row
rows_of line [] = []
rows_of line (next ∷ others) = rows_from line (one_row next) others

-- ---- their text

-- the stage, the first and the last times, how many, and the least cost
abbrev pub span_words : ℕ → Line → Row → List ℕ
span_words stage line row =
    decimal stage ++ (32 ∷ (times_words line row.first
    ++ (codes " TO " ++ (times_words line row.last
    ++ (codes " COUNT " ++ (decimal row.count
    ++ (codes " COST " ++ decimal row.cost)))))))

-- what bars them, with the limit of that resource, and what earlier stages and the others use of it
abbrev pub barred_words : Capacity → (ℕ → ℕ) → (ℕ → ℕ) → (ℕ → ℕ) → Barred → List ℕ
barred_words c limit earlier others barred =
    codes " DATES " ++ (decimal barred.dates
    ++ (codes " BY " ++ (resource_words c barred.resource
    ++ (codes " LIMIT " ++ (decimal (limit barred.resource)
    ++ (codes " EARLIER " ++ (decimal (earlier barred.resource)
    ++ (codes " OTHERS " ++ (decimal (others barred.resource)
    ++ (codes " USES " ++ decimal barred.uses))))))))))

abbrev pub row_by : Capacity → (ℕ → ℕ) → (ℕ → ℕ) → (ℕ → ℕ) → ℕ → Line → Row → Option Barred →
    List ℕ
row_by c limit earlier others stage line row None =
    codes "FITS " ++ (span_words stage line row ++ 10 ∷ [])
row_by c limit earlier others stage line row (Some barred) =
    codes "NOT "
    ++ (span_words stage line row ++ (barred_words c limit earlier others barred ++ 10 ∷ []))

abbrev pub row_line : AllottedStage → ℕ → Line → Row → List ℕ
row_line a place line row =
    row_by (capacity_of a.declaration) (limit_in a) (earlier_load a.declaration a.states)
    (others_load a place) a.stage line row row.barred

-- the lines of one unit of a stage, which was given these times
abbrev pub unit_rows : AllottedStage → ℕ → SlotUnit → Times → List Row
unit_rows a place unit given = rows_of unit.request (cheaper_than a place unit given)

abbrev pub unit_reasons : AllottedStage → ℕ → SlotUnit → Times → List ℕ
unit_reasons a place unit given =
    flat_map (row_line a place unit.request) (unit_rows a place unit given)

-- ---- the lines of all units, one text a unit, which is empty for units of other stages

abbrev pub reasons_from : AllottedStage → ℕ → List UnitState → List Times → List (List ℕ)
reasons_from a place [] times = []
reasons_from a place (state ∷ states) [] = [] ∷ reasons_from a place states []
reasons_from a place (state ∷ states) (given ∷ times) =
    if is_due_state a.stage state
    then unit_reasons a place state.unit given ∷ reasons_from a (suc place) states times
    else [] ∷ reasons_from a place states (given ∷ times)

abbrev pub allotted_stage : Declaration → ℕ → List UnitState → List ℕ → AllottedStage
allotted_stage d stage states choice = record {
  declaration = d;
  stage = stage;
  states = states;
  times = stage_times d stage states choice;
}

abbrev pub allotted_reasons : AllottedStage → List (List ℕ)
allotted_reasons a = reasons_from a 0 a.states a.times
