-- What an alternative costs: the displacement against the requested times, in minutes, or the price
-- of a refusal.
use Rattle.std.specs.Prelude.{ℕ, ◌+◌, ◌*◌, if◌then◌else◌, is_some, length, Option, Some, None}
use Rattle.std.specs.Option.{unwrap_or}
use Rattle.std.specs.Int.{abs_diff}
use Rattle.season_days.specs.Term.{Term}
use Rattle.season_days.specs.Seasons.{dates_of}
use Rattle.season_days.specs.declared.declaration.Declaration.{Declaration}
use Rattle.season_days.specs.declared.declaration.TheConstants.{MINUTES_OF_DAY}
use Rattle.scr_reader.specs.declared.line.Line.{Line}
use Rattle.scr_reader.specs.declared.line.Stop.{Stop}
use Rattle.series_model.specs.declared.unit.Unit.{Unit as SlotUnit}
use Rattle.series_model.specs.declared.times.Times.{Times}
use Rattle.series_model.specs.declared.times.Times.TheVariants.{Refused, At}

-- by how many minutes a movement is moved, where the line has it
abbrev pub stop_change : ℕ → Option Stop → ℕ → ℕ
stop_change nights None minute = 0
stop_change nights (Some stop) minute = abs_diff minute (MINUTES_OF_DAY * nights + stop.minute)

-- all movements of a line on one date
abbrev pub line_change : Line → ℕ → ℕ → ℕ
line_change line arrival departure =
    stop_change 0 line.arrival arrival + stop_change line.nights line.departure departure

-- how many movements a line has on a date, and how many dates
abbrev pub stop_count : Line → ℕ
stop_count line =
    (if is_some line.arrival then 1 else 0) + (if is_some line.departure then 1 else 0)

abbrev pub line_dates : Term → Line → ℕ
line_dates season line = length (dates_of season line.period)

-- a refusal costs its price for each movement on each date
abbrev pub cost_at : Declaration → Line → Times → ℕ
cost_at d line Refused = unwrap_or d.refuse 0 * stop_count line * line_dates d.season line
cost_at d line (At arrival departure) =
    line_dates d.season line * line_change line arrival departure

abbrev pub displacement_of : Declaration → SlotUnit → Times → ℕ
displacement_of d unit times = cost_at d unit.request times
