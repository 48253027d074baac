-- The alternatives of a unit: the times that it may be given, in order.
use Rattle.std.specs.Prelude.{ℕ, ◌+◌, ◌-◌, ◌*◌, ◌%◌, ◌<◌, ◌==◌, ◌&&◌, Bool, true, false, nat_le, min, max, if◌then◌else◌, IsSome, List, [], ◌∷◌, ◌++◌, map, filter, Option, Some, None}
use Rattle.std.specs.Int.{abs_diff}
use Rattle.std.specs.List.{range_with_len, flat_map, list_any}
use Rattle.season_days.specs.declared.declaration.Declaration.{Declaration}
use Rattle.season_days.specs.declared.declaration.TheConstants.{MINUTES_OF_DAY}
use Rattle.scr_reader.specs.declared.line.Line.{Line}
use Rattle.scr_reader.specs.declared.line.Stop.{Stop}
use Rattle.series_model.specs.declared.group.Group.{Group}
use Rattle.series_model.specs.declared.group.Group.TheVariants.{F, R, L, B, N}
use Rattle.series_model.specs.declared.unit.Unit.{Unit as SlotUnit}
use Rattle.series_model.specs.declared.times.Times.{Times}
use Rattle.series_model.specs.declared.times.Times.TheVariants.{Refused, At}

-- ---- times of a line

-- the minutes from the beginning of a line's date to a movement some nights later; 0 where there is
-- no such movement
abbrev pub relative_minute : ℕ → Option Stop → ℕ
relative_minute nights None = 0
relative_minute nights (Some stop) = MINUTES_OF_DAY * nights + stop.minute

abbrev pub arrival_minute : Line → ℕ
arrival_minute line = relative_minute 0 line.arrival

abbrev pub departure_minute : Line → ℕ
departure_minute line = relative_minute line.nights line.departure

-- the times that a line names
abbrev pub line_times : Line → Times
line_times line = At (arrival_minute line) (departure_minute line)

-- ---- shifts

-- whether a minute differs from the requested one by a multiple of the step of at most the
-- flexibility
abbrev pub is_shift : ℕ → ℕ → ℕ → ℕ → Bool
is_shift step flex requested minute =
    nat_le (abs_diff minute requested) flex && (abs_diff minute requested % step == 0)

-- the minutes of the date some nights after a line's
unfoldable pub date_minutes : ℕ → List ℕ
date_minutes nights = range_with_len (MINUTES_OF_DAY * nights) MINUTES_OF_DAY

-- the minutes to which a movement may be shifted, in rising order: those of its own date that are
-- shifts
abbrev pub stop_shifts : Declaration → ℕ → Stop → List ℕ
stop_shifts d nights stop =
    filter (is_shift d.step d.flex (MINUTES_OF_DAY * nights + stop.minute)) (date_minutes nights)

-- the ground time that a turnaround keeps: the declared one, or the one that it asked for where
-- that is less
abbrev pub least_ground : Declaration → ℕ → ℕ → ℕ
least_ground d arrival departure = min d.ground (departure - arrival)

-- pairs of shifts, by rising arrival and then by rising departure, whose departure is at least so
-- long after the arrival
abbrev pub pairs_at : ℕ → List ℕ → ℕ → List Times
pairs_at least departures arrival =
    map (λ departure. At arrival departure)
    (filter (λ departure. nat_le (arrival + least) departure) departures)

abbrev pub pairs_of : ℕ → List ℕ → List ℕ → List Times
pairs_of least arrivals departures = flat_map (pairs_at least departures) arrivals

-- all shifts of a line: of its one movement, or pairs of its two
abbrev pub shifts_by : Declaration → ℕ → Option Stop → Option Stop → List Times
shifts_by d nights None None = []
shifts_by d nights (Some coming) None = map (λ arrival. At arrival 0) (stop_shifts d 0 coming)
shifts_by d nights None (Some going) =
    map (λ departure. At 0 departure) (stop_shifts d nights going)
shifts_by d nights (Some coming) (Some going) =
    pairs_of (least_ground d coming.minute (MINUTES_OF_DAY * nights + going.minute))
    (stop_shifts d 0 coming) (stop_shifts d nights going)

abbrev pub shifts_of : Declaration → Line → List Times
shifts_of d line = shifts_by d line.nights line.arrival line.departure

-- ---- alternatives

-- from the earlier to the later of two minutes
abbrev pub is_between : ℕ → ℕ → ℕ → Bool
is_between one other minute = nat_le (min one other) minute && nat_le minute (max one other)

-- each movement lies between those of two lines
abbrev pub lies_between : Line → Line → Times → Bool
lies_between historic request Refused = false
lies_between historic request (At arrival departure) =
    is_between (arrival_minute historic) (arrival_minute request) arrival
    && is_between (departure_minute historic) (departure_minute request) departure

-- the same times
abbrev pub are_same : Times → Times → Bool
are_same Refused Refused = true
are_same Refused (At arrival departure) = false
are_same (At arrival departure) Refused = false
are_same (At arrival departure) (At other later) = arrival == other && departure == later

-- then the times, unless they are there
abbrev pub with_times : List Times → Times → List Times
with_times options times = if list_any (are_same times) options then options
    else options ++ times ∷ []

-- then refused, where that has a price
abbrev pub with_refused : List Times → Option ℕ → List Times
with_refused options None = options
with_refused options (Some price) = options ++ Refused ∷ []

-- F has the requested times; N and B all shifts, and then refused, where it has a price
abbrev pub new_options : Declaration → Line → List Times
new_options d request = with_refused (shifts_of d request) d.refuse

-- R has the shifts between the historic and the requested times, and L the requested ones; then
-- come the historic times, unless they are there
abbrev pub flexible_options : Declaration → Line → Option Line → List Times
flexible_options d request None = shifts_of d request
flexible_options d request (Some historic) =
    with_times (filter (lies_between historic request) (shifts_of d request)) (line_times historic)

abbrev pub either_options : Line → Option Line → List Times
either_options request None = line_times request ∷ []
either_options request (Some historic) = with_times (line_times request ∷ []) (line_times historic)

abbrev pub options_by : Declaration → Line → Option Line → Group → List Times
options_by d request historic F = line_times request ∷ []
options_by d request historic R = flexible_options d request historic
options_by d request historic L = either_options request historic
options_by d request historic B = new_options d request
options_by d request historic N = new_options d request

-- the numbered list of a unit's alternatives
abbrev pub options_of : Declaration → SlotUnit → List Times
options_of d unit = options_by d unit.request unit.historic unit.group

-- ---- what the times of an alternative have

-- a refusal has a price; an arrival is on its date, and a departure at most nine nights later
abbrev pub TimesFit : Option ℕ → Times → Type 0
TimesFit price Refused = IsSome price
TimesFit price (At arrival departure) =
    (arrival < MINUTES_OF_DAY) × (departure < 10 * MINUTES_OF_DAY)
