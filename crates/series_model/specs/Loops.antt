-- Shifts within spans of minutes, as loops find and number them, and units in a loop over a stage:
-- contracts of private functions alone cite them.
use Rattle.std.specs.Prelude.{◌≡◌, ℕ, zero, suc, ◌+◌, ◌-◌, ◌*◌, ◌%◌, ◌<◌, ◌≤◌, List, [], ◌∷◌, map, filter, drop, Option, Some, None, Result, Ok, Err}
use Rattle.std.specs.List.{range_with_len}
use Rattle.season_days.specs.declared.declaration.Declaration.{Declaration}
use Rattle.season_days.specs.declared.declaration.TheConstants.{MINUTES_OF_DAY}
use Rattle.scr_reader.specs.declared.line.Line.{Line}
use Rattle.scr_reader.specs.declared.line.Stop.{Stop}
use Rattle.series_model.specs.declared.shifts.TheConstants.{MINUTE_BOUND}
use Rattle.series_model.specs.declared.shifts.Span.{Span}
use Rattle.series_model.specs.declared.shifts.Shifts.{Shifts}
use Rattle.series_model.specs.declared.shifts.LineShifts.{LineShifts}
use Rattle.series_model.specs.declared.shifts.LineShifts.TheVariants.{Neither, Arrivals, Departures, Pairs}
use Rattle.series_model.specs.declared.times.Times.{Times}
use Rattle.series_model.specs.declared.times.Times.TheVariants.{At}
use Rattle.series_model.specs.declared.state.UnitState.{UnitState}
use Rattle.series_model.specs.Options.{is_shift, least_ground, pairs_of}
use Rattle.series_model.specs.Stages.{after_allotment, stage_times}

-- the shifts from a minute on
abbrev pub shifts_from : Shifts → ℕ → List ℕ
shifts_from s from =
    filter (is_shift s.step s.flex s.requested) (range_with_len from (s.high + 1 - from))

-- those within the span
abbrev pub all_shifts : Shifts → List ℕ
all_shifts s = shifts_from s s.low

-- a step above 0, and minutes of some days
pub record AreShifts (s : Shifts) : Type 0 where
  pub step : 0 < s.step
  pub high : s.high < MINUTE_BOUND

-- a minute with the remainder of the requested one, within the flexibility
pub record IsShiftOf (s : Shifts) (minute : ℕ) : Type 0 where
  pub rest : minute % s.step ≡ s.requested % s.step
  pub early : s.requested ≤ minute + s.flex
  pub late : minute ≤ s.requested + s.flex

-- the shifts of a declaration within a span
abbrev pub shifts_in : Declaration → ℕ → Span → Shifts
shifts_in d requested span =
    record { requested = requested; low = span.low; high = span.high; step = d.step; flex = d.flex }

-- the shifts of a line, each movement within its span
abbrev pub within_by : Declaration → ℕ → Span → Span → Option Stop → Option Stop → List Times
within_by d nights coming_in going_in None None = []
within_by d nights coming_in going_in (Some coming) None =
    map (λ arrival. At arrival 0) (all_shifts (shifts_in d coming.minute coming_in))
within_by d nights coming_in going_in None (Some going) =
    map (λ departure. At 0 departure)
    (all_shifts (shifts_in d (MINUTES_OF_DAY * nights + going.minute) going_in))
within_by d nights coming_in going_in (Some coming) (Some going) =
    pairs_of (least_ground d coming.minute (MINUTES_OF_DAY * nights + going.minute))
    (all_shifts (shifts_in d coming.minute coming_in))
    (all_shifts (shifts_in d (MINUTES_OF_DAY * nights + going.minute) going_in))

abbrev pub shifts_within : Declaration → Line → Span → Span → List Times
shifts_within d line coming_in going_in =
    within_by d line.nights coming_in going_in line.arrival line.departure

-- the shifts of a line: of its one movement, or pairs of its two
abbrev pub line_shifts : LineShifts → List Times
line_shifts Neither = []
line_shifts (Arrivals arrivals) = map (λ arrival. At arrival 0) (all_shifts arrivals)
line_shifts (Departures departures) = map (λ departure. At 0 departure) (all_shifts departures)
line_shifts (Pairs arrivals departures least) =
    pairs_of least (all_shifts arrivals) (all_shifts departures)

abbrev pub AreLineShifts : LineShifts → Type 0
AreLineShifts Neither = Unit {0}
AreLineShifts (Arrivals arrivals) = AreShifts arrivals
AreLineShifts (Departures departures) = AreShifts departures
AreLineShifts (Pairs arrivals departures least) =
    AreShifts arrivals × AreShifts departures × (least < MINUTE_BOUND)

-- the element with a number, or by how much the number is past the last one
abbrev pub numbered : {X : Type 0} → List X → ℕ → Result X ℕ
numbered [] n = Err n
numbered (x ∷ xs) zero = Ok x
numbered (x ∷ xs) (suc n) = numbered xs n

-- ---- units in a loop over a stage

-- the unit first in line is so after the stage, and takes so many of the numbers
abbrev pub Advances : Declaration → ℕ → UnitState → List ℕ → UnitState → ℕ → Type 0
Advances d stage state numbers after taken =
    (rest : List UnitState) →
    after_allotment stage (state ∷ rest) (stage_times d stage (state ∷ rest) numbers)
    ≡ after ∷ after_allotment stage rest (stage_times d stage rest (drop taken numbers))
