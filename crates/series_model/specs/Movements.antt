-- The movements of a unit at given times: for each date of its line the arrival, and then the
-- departure.
use Rattle.std.specs.Prelude.{ℕ, ◌+◌, ◌/◌, ◌%◌, nat_lt, if◌then◌else◌, List, [], ◌∷◌, ◌++◌, Option, Some, None}
use Rattle.std.specs.List.{flat_map}
use Rattle.season_days.specs.Term.{Term}
use Rattle.season_days.specs.Seasons.{date_count, dates_of}
use Rattle.season_days.specs.declared.day.Period.{Period}
use Rattle.season_days.specs.declared.declaration.Kind.{Kind}
use Rattle.season_days.specs.declared.declaration.TheConstants.{MINUTES_OF_DAY}
use Rattle.season_days.specs.declared.declaration.Kind.TheVariants.{Arr, Dep}
use Rattle.scr_reader.specs.declared.line.Line.{Line}
use Rattle.scr_reader.specs.declared.line.Stop.{Stop}
use Rattle.capacity_windows.specs.Windows.{Capacity, window_load, stop_movements}
use Rattle.capacity_windows.specs.declared.movement.Movement.{Movement}
use Rattle.series_model.specs.declared.unit.Unit.{Unit as SlotUnit}
use Rattle.series_model.specs.declared.times.Times.{Times}
use Rattle.series_model.specs.declared.times.Times.TheVariants.{Refused, At}

-- so many minutes after the beginning of a date
abbrev pub movement_after : Kind → ℕ → ℕ → Movement
movement_after kind date minute =
    record { kind = kind; day = date + minute / MINUTES_OF_DAY; minute = minute % MINUTES_OF_DAY }

-- a movement after the season's last date is listed nowhere
abbrev pub listed : Term → Movement → List Movement
listed season movement = if nat_lt movement.day (date_count season) then movement ∷ [] else []

-- the movement on a date, where the line has one of the kind
abbrev pub stop_on : Term → Kind → Option Stop → ℕ → ℕ → List Movement
stop_on season kind None minute date = []
stop_on season kind (Some stop) minute date = listed season (movement_after kind date minute)

-- on a date the arrival, and then the departure
abbrev pub movements_on : Term → Line → ℕ → ℕ → ℕ → List Movement
movements_on season line arrival departure date =
    stop_on season Arr line.arrival arrival date ++ stop_on season Dep line.departure departure date

-- on all dates, one after the other; where a unit is refused it has no movements
abbrev pub movements_at : Term → Line → Times → List Movement
movements_at season line Refused = []
movements_at season line (At arrival departure) =
    flat_map (movements_on season line arrival departure) (dates_of season line.period)

abbrev pub movements_of : Term → SlotUnit → Times → List Movement
movements_of season unit times = movements_at season unit.request times

-- the load of a line's movements of one kind, as that of the stop which its strips stand for
abbrev pub stop_load : Capacity → Kind → Option Stop → ℕ → Period → ℕ → ℕ
stop_load c kind None minute period r = 0
stop_load c kind (Some stop) minute period r =
    window_load c
    (stop_movements c kind (minute % MINUTES_OF_DAY) (minute / MINUTES_OF_DAY) period) r
