-- A line at the times of an alternative, as an offer is printed and a holding is kept, and the
-- movements of a line at its own times.
use Rattle.std.specs.Prelude.{ℕ, ◌/◌, ◌%◌, ◌*◌, ◌<◌, List, Option, Some, None}
use Rattle.season_days.specs.Term.{Term}
use Rattle.season_days.specs.declared.declaration.TheConstants.{MINUTES_OF_DAY}
use Rattle.scr_reader.specs.declared.line.Line.{Line}
use Rattle.scr_reader.specs.declared.line.Stop.{Stop}
use Rattle.capacity_windows.specs.declared.movement.Movement.{Movement}
use Rattle.series_model.specs.declared.times.Times.{Times}
use Rattle.series_model.specs.declared.times.Times.TheVariants.{Refused, At}
use Rattle.series_model.specs.Options.{line_times}
use Rattle.series_model.specs.Movements.{movements_at}

-- the stop at another minute of its day
abbrev pub stop_at : Option Stop → ℕ → Option Stop
stop_at None minute = None
stop_at (Some stop) minute = Some (record stop { minute = minute % MINUTES_OF_DAY })

-- the arrival and the departure at these minutes, with so many nights between; a refusal changes
-- nothing
abbrev pub line_at : Line → Times → Line
line_at line Refused = line
line_at line (At arrival departure) =
    record line {
      arrival = stop_at line.arrival arrival;
      departure = stop_at line.departure departure;
      nights = departure / MINUTES_OF_DAY;
    }

-- times of which a line can be made: a departure at most nine nights later
abbrev pub IsNear : Times → Type 0
IsNear Refused = Unit {0}
IsNear (At arrival departure) = departure < 10 * MINUTES_OF_DAY

-- the movements of a line at the times that it names
abbrev pub line_movements : Term → Line → List Movement
line_movements season line = movements_at season line (line_times line)
