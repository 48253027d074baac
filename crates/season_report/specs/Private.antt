-- What the private calls of a report keep. Contracts of private functions alone cite these words.
use Rattle.std.specs.Prelude.{◌≡◌, ℕ, suc, ◌+◌, ◌*◌, ◌<◌, ◌≤◌, ◌^◌, Bool, true, false, min, nat_lt, if◌then◌else◌, List, [], ◌∷◌, ◌++◌, length, map, filter, sum_by, Vec, IfSome, Option, Some, None, slice_get, slice_index, ℤ, pos, int_lt, codes}
use Rattle.std.specs.Fmt.{decimal}
use Rattle.std.specs.List.{range_with_len, flat_map}
use Rattle.season_days.specs.Capacity.{Capacity, capacity_of, declared_resources, IsDeclaration}
use Rattle.season_days.specs.declared.declaration.Declaration.{Declaration}
use Rattle.season_days.specs.declared.declaration.Rule.{Rule}
use Rattle.season_days.specs.declared.declaration.TheConstants.{MINUTES_OF_DAY, HIGHEST_NIGHT_LIMIT}
use Rattle.capacity_windows.specs.Windows.{first_of, windows_of, starts_of, resource_at, holds}
use Rattle.capacity_windows.specs.declared.movement.Movement.{Movement}
use Rattle.capacity_windows.specs.declared.resource.Resource.TheVariants.{Window}
use Rattle.scr_reader.specs.declared.line.Line.{Line}
use Rattle.scr_reader.specs.Printed.{LineFits}
use Rattle.choice_problem.specs.Counts.{limit_at}
use Rattle.choice_problem.specs.Problems.{ProblemView, unit_count, alt_count, alt_cost, alt_uses, limit_of, resource_count}
use Rattle.series_model.specs.declared.group.Group.{Group}
use Rattle.series_model.specs.declared.group.Group.TheVariants.{F, R, L, B, N}
use Rattle.series_model.specs.declared.unit.Unit.{Unit as SlotUnit}
use Rattle.series_model.specs.declared.state.UnitState.{UnitState}
use Rattle.series_model.specs.declared.times.Times.{Times}
use Rattle.series_model.specs.declared.times.Times.TheVariants.{Refused, At}
use Rattle.series_model.specs.Units.{UnitFits}
use Rattle.series_model.specs.Options.{options_of}
use Rattle.series_model.specs.TimedLines.{line_at, IsNear}
use Rattle.series_model.specs.Stages.{is_due_state}
use Rattle.series_model.specs.Allotments.{allotted_load}
use Rattle.wasg_stages.specs.StageProblems.{IsStageProblem}
use Rattle.season_report.specs.declared.barred.Barred.{Barred}
use Rattle.season_report.specs.declared.barred.Row.{Row}
use Rattle.season_report.specs.declared.barred.Cheaper.{Cheaper}
use Rattle.season_report.specs.declared.decided.Decided.{Decided}
use Rattle.season_report.specs.declared.decided.Decision.TheVariants.{Unallotted, Refused as refused_decision, Kept, Historic, Moved}
use Rattle.season_report.specs.declared.tallies.Tally.{Tally}
use Rattle.season_report.specs.declared.told.Tried.{Tried}
use Rattle.season_report.specs.Decisions.{decision, has_decision}
use Rattle.season_report.specs.Reports.{decision_word, shift_word, unit_cost_word}
use Rattle.series_model.specs.Displacement.{line_dates}
use Rattle.report_lines.specs.Peaks.{AreEarlier}
use Rattle.season_report.specs.Tallies.{slots_cost, slots_cost_of}
use Rattle.season_report.specs.Reasons.{AllottedStage, units_in, barred_dates}
use Rattle.season_report.specs.Rows.{rows_of, rows_from, joins, one_row, with_next, row_by, unit_reasons, allotted_stage}

-- ---- units

-- what a unit asked for and was given has a spelling, and its slots cost less than 2^24
pub record IsTold (d : Declaration) (u : Decided) : Type 0 where
  pub unit : UnitFits d.season u.unit
  pub given : IfSome u.given
      (λ times. LineFits d.season (line_at u.unit.request times) × IsNear times)
  pub small : slots_cost d u < 2 ^ 24

-- one unit more in a tally
abbrev pub one_more : Bool → ℕ → ℕ
one_more true n = n + 1
one_more false n = n

abbrev pub with_unit : Declaration → Tally → Decided → Tally
with_unit d t u = record {
  units = t.units + 1;
  kept = one_more (has_decision Kept u) t.kept;
  historic = one_more (has_decision Historic u) t.historic;
  moved = one_more (has_decision Moved u) t.moved;
  refused = one_more (has_decision refused_decision u) t.refused;
  unallotted = one_more (has_decision Unallotted u) t.unallotted;
  minutes = t.minutes + slots_cost d u;
}

-- no number of a tally is great
pub record IsSmallTally (t : Tally) : Type 0 where
  pub units : t.units < 2 ^ 32
  pub kept : t.kept < 2 ^ 32
  pub historic : t.historic < 2 ^ 32
  pub moved : t.moved < 2 ^ 32
  pub refused : t.refused < 2 ^ 32
  pub unallotted : t.unallotted < 2 ^ 32
  pub minutes : t.minutes < 2 ^ 60

-- so it is with what stages gave
pub record IsAnswered (d : Declaration) (state : UnitState) : Type 0 where
  pub unit : UnitFits d.season state.unit
  pub given : IfSome state.given
      (λ times. LineFits d.season (line_at state.unit.request times) × IsNear times)
  pub small : slots_cost_of d state.unit state.given < 2 ^ 24

-- the texts of units
abbrev pub texts_of : {A : Type 0} → List (Vec ℕ A) → List (List ℕ)
texts_of texts = map (λ (text : Vec ℕ _). text.items) texts

-- the two halves of the first line of a unit
abbrev pub decided_words : Decided → List ℕ
decided_words u =
    codes "UNIT " ++ (decimal u.unit.line
    ++ (codes " STAGE " ++ (decimal u.stage ++ (32 ∷ decision_word (decision u)))))

abbrev pub moved_words : Declaration → Decided → List ℕ
moved_words d u =
    codes " DATES " ++ (decimal (line_dates d.season u.unit.request)
    ++ (codes " SHIFT " ++ (shift_word u.unit.request u.given
    ++ (codes " COST " ++ unit_cost_word d u.unit u.given))))

-- the first stage of a group
abbrev pub first_stage : Group → ℕ
first_stage F = 1
first_stage R = 2
first_stage L = 2
first_stage B = 3
first_stage N = 4

-- before a stage nothing was given to a unit that earlier stages do not allot
abbrev pub IsOpen : ℕ → UnitState → Type 0
IsOpen stage state = stage ≤ first_stage state.unit.group → state.given ≡ None

-- the reasons of a unit, if it is one of the stage's, where these times are left for it and the
-- units after it; and the place of the next one
abbrev pub first_reasons : AllottedStage → ℕ → UnitState → List Times → List ℕ
first_reasons a place state [] = []
first_reasons a place state (given ∷ times) =
    if is_due_state a.stage state then unit_reasons a place state.unit given else []

abbrev pub place_after : ℕ → ℕ → UnitState → ℕ
place_after stage place state = if is_due_state stage state then place + 1 else place

-- ---- what the lines of a stage are made of

-- the windows and the problem are of the declaration, and the loads are one for each resource
pub record IsSettled (t : Tried) : Type 0 where
  pub keeps : IsDeclaration t.declaration.now
  pub windows : t.windows.now ≡ capacity_of t.declaration.now
  pub resources : resource_count t.problem.now ≡ declared_resources (capacity_of t.declaration.now)
  pub earlier : length t.earlier.now ≡ declared_resources (capacity_of t.declaration.now)
  pub limits : (r : ℕ) → r < resource_count t.problem.now →
      limit_of t.problem.now r ≤ HIGHEST_NIGHT_LIMIT

-- the problem is of the stage, and the loads are what earlier stages gave
pub record IsToldStage (t : Tried) (states : List UnitState) : Type 0 where
  pub settled : IsSettled t
  pub problem : IsStageProblem t.declaration.now t.stage states t.problem.now
  pub earlier : AreEarlier t.declaration.now states t.earlier.now

-- the stage with its choice
abbrev pub told_stage : Tried → List UnitState → List ℕ → AllottedStage
told_stage t states choice = allotted_stage t.declaration.now t.stage states choice

-- a unit at a place of the problem: as many alternatives, and its request
pub record IsPlaced (t : Tried) (place : ℕ) (unit : SlotUnit) : Type 0 where
  pub there : place < unit_count t.problem.now
  pub fits : UnitFits t.declaration.now.season unit
  pub options : length (options_of t.declaration.now unit) ≡ alt_count t.problem.now place

-- the counts have all units of the stage
pub record AreAll (a : AllottedStage) (counts : List ℕ) : Type 0 where
  pub length : length counts ≡ declared_resources (capacity_of a.declaration)
  pub each : (r : ℕ) → r < declared_resources (capacity_of a.declaration) →
      slice_index counts r ≡ allotted_load a.declaration (units_in a) a.times r

-- ---- reasons as they are found: by the problem, and counts of the other units

-- the counts and the uses of an alternative are together above the limit
abbrev pub is_above_with : ProblemView → ℕ → ℕ → List ℕ → ℕ → Bool
is_above_with p place alt others r =
    nat_lt (limit_of p r) (slice_index others r + alt_uses p place alt r)

abbrev pub found_passed : ProblemView → ℕ → ℕ → List ℕ → List ℕ
found_passed p place alt others =
    filter (is_above_with p place alt others) (range_with_len 0 (resource_count p))

abbrev pub found_barred : Tried → ℕ → Line → Times → ℕ → List ℕ → Option Barred
found_barred t place line times alt [] = None
found_barred t place line times alt (r ∷ resources) =
    Some (record {
      resource = r;
      uses = alt_uses t.problem.now place alt r;
      dates = barred_dates t.declaration.now line times (r ∷ resources);
    })

abbrev pub found_reason : Tried → ℕ → Line → Times → ℕ → List ℕ → Option Barred
found_reason t place line times alt others =
    found_barred t place line times alt (found_passed t.problem.now place alt others)

abbrev pub found_cheaper : Tried → ℕ → Line → Times → ℕ → List ℕ → Cheaper
found_cheaper t place line times alt others = record {
  times = times;
  cost = alt_cost t.problem.now place alt;
  barred = found_reason t place line times alt others;
}

-- the alternative of a number, where it costs less
abbrev pub found_at : Tried → ℕ → Line → ℕ → List ℕ → ℕ → Times → List Cheaper
found_at t place line cost others alt times =
    if nat_lt (alt_cost t.problem.now place alt) cost
    then found_cheaper t place line times alt others ∷ [] else []

-- those from a number on
abbrev pub found_from : Tried → ℕ → Line → ℕ → List ℕ → ℕ → List Times → List Cheaper
found_from t place line cost others alt [] = []
found_from t place line cost others alt (times ∷ options) =
    found_at t place line cost others alt times
    ++ found_from t place line cost others (suc alt) options

-- ---- their lines

abbrev pub found_row : Tried → List ℕ → Line → Row → List ℕ
found_row t others line row =
    row_by t.windows.now (limit_of t.problem.now) (slice_index t.earlier.now) (slice_index others)
    t.stage line row row.barred

abbrev pub found_rows : Tried → List ℕ → Line → List Row → List ℕ
found_rows t others line rows = flat_map (found_row t others line) rows

abbrev pub found_reasons : Tried → ℕ → Line → ℕ → List ℕ → List Times → List ℕ
found_reasons t place line cost others options =
    found_rows t others line (rows_of line (found_from t place line cost others 0 options))

-- the lines of what is under way, and of alternatives after it
abbrev pub rows_on : Line → Option Row → List Cheaper → List Row
rows_on line None alternatives = rows_of line alternatives
rows_on line (Some row) alternatives = rows_from line row alternatives

-- the line under way after one alternative more, and the line that ends there
abbrev pub next_row : Line → Option Row → Cheaper → Row
next_row line None next = one_row next
next_row line (Some row) next =
    if joins line row next then with_next row next else one_row next

abbrev pub ended_row : Line → Option Row → Cheaper → List Row
ended_row line None next = []
ended_row line (Some row) next = if joins line row next then [] else row ∷ []

abbrev pub row_after : Line → Option Row → List Cheaper → Option Row
row_after line row [] = row
row_after line row (next ∷ others) = Some (next_row line row next)

abbrev pub rows_ended : Line → Option Row → List Cheaper → List Row
rows_ended line row [] = []
rows_ended line row (next ∷ others) = ended_row line row next

-- a line under way after so many alternatives; a resource that it names is there
pub record IsUnderWay (resources n : ℕ) (row : Row) : Type 0 where
  pub few : row.count ≤ n
  pub there : IfSome row.barred (λ (barred : Barred). barred.resource < resources)

-- ---- counts above limits

abbrev pub is_above_at : List ℕ → List ℤ → ℕ → Bool
is_above_at counts limits r = int_lt (limit_at limits r) (pos (slice_index counts r))

-- all resources whose counts are above their limits
abbrev pub resources_above : List ℕ → List ℤ → List ℕ
resources_above counts limits =
    filter (is_above_at counts limits) (range_with_len 0 (length counts))

-- the lowest resource of a kind whose count is above its limit, or there is none
abbrev pub IsLowest : List ℕ → List ℤ → (ℕ → Type 0) → Option ℕ → Type 0
IsLowest counts limits Is None =
    (r : ℕ) → r < length counts → Is r → is_above_at counts limits r ≡ false
IsLowest counts limits Is (Some lowest) =
    (lowest < length counts) × Is lowest × (is_above_at counts limits lowest ≡ true)
    × ((r : ℕ) → r < lowest → Is r → is_above_at counts limits r ≡ false)

abbrev pub lower_of : Option ℕ → Option ℕ → Option ℕ
lower_of None other = other
lower_of (Some one) None = Some one
lower_of (Some one) (Some other) = Some (min one other)

-- a resource that is above its limit holds the movement
abbrev pub IsBarred : Capacity → Movement → List ℕ → List ℤ → Type 0
IsBarred c m counts limits =
    (r : ℕ) × (r < length counts) × (is_above_at counts limits r ≡ true)
    × (holds c (resource_at c r) m ≡ true)

-- no window of a capacity line that begins so many days before the movement's, and holds the
-- movement, is above its limit
abbrev pub IsClearOf : Capacity → ℕ → ℕ → Movement → List ℕ → List ℤ → Type 0
IsClearOf c rule ago m counts limits =
    (day start : ℕ) → day + ago ≡ m.day →
    IfSome (slice_get c.rules rule) (λ (of : Rule). start < starts_of c.step of →
    holds c (Window of day start) m ≡ true →
    is_above_at counts limits (first_of c rule + day * starts_of c.step of + start) ≡ false)

-- the night quota does not hold it, or is not above
abbrev pub IsClearOfQuota : Capacity → Movement → List ℕ → List ℤ → Type 0
IsClearOfQuota c m counts limits =
    (r : ℕ) → r ≡ sum_by (windows_of c) c.rules → r < declared_resources c →
    holds c (resource_at c r) m ≡ true → is_above_at counts limits r ≡ false

-- an arrival on its date, and a departure at most nine nights later
abbrev pub TimesAreNear : Times → Type 0
TimesAreNear Refused = Unit {0}
TimesAreNear (At arrival departure) =
    (arrival < MINUTES_OF_DAY) × (departure < 10 * MINUTES_OF_DAY)
