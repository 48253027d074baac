-- Lines beside one another: which clash, which holdings match a line, and what is left of a holding
-- where the dates of a period are taken out.
use Rattle.std.specs.Prelude.{◌==◌, ◌&&◌, ◌||◌, Bool, true, false, if◌then◌else◌, List, [], ◌∷◌, ◌++◌, map, Option, Some, None}
use Rattle.std.specs.Option.{option_map}
use Rattle.season_days.specs.Term.{Term}
use Rattle.season_days.specs.Periods.{shares_date, has_all_dates, cut_periods, cut_of}
use Rattle.season_days.specs.declared.day.Period.{Period}
use Rattle.scr_reader.specs.declared.line.Flight.{Flight}
use Rattle.scr_reader.specs.declared.line.Stop.{Stop}
use Rattle.scr_reader.specs.declared.line.Line.{Line}
use Rattle.series_model.specs.Submissions.{are_letters}
use Rattle.holding_book.specs.declared.holding.Holding.{Holding}
use Rattle.holding_book.specs.declared.holding.State.{State}
use Rattle.holding_book.specs.declared.holding.State.TheVariants.{Confirmed, Offered}

-- ---- flights

-- the same airline, number and letter
abbrev pub is_flight : Flight → Flight → Bool
is_flight one other =
    are_letters one.airline other.airline
    && (one.number == other.number && one.suffix == other.suffix)

-- the movement is of this flight
abbrev pub has_stop_flight : Flight → Option Stop → Bool
has_stop_flight flight None = false
has_stop_flight flight (Some stop) = is_flight flight stop.flight

-- the line has the flight as its arrival or as its departure
abbrev pub has_flight : Flight → Line → Bool
has_flight flight line =
    has_stop_flight flight line.arrival || has_stop_flight flight line.departure

-- ---- clashes

-- both lines have the movement, of one flight
abbrev pub shares_flight : Option Stop → Option Stop → Bool
shares_flight None other = false
shares_flight (Some stop) other = has_stop_flight stop.flight other

-- a common date, and one arrival flight or one departure flight. The date is that of the arrival
abbrev pub clashes : Term → Line → Line → Bool
clashes season one other =
    (shares_flight one.arrival other.arrival || shares_flight one.departure other.departure)
    && shares_date season one.period other.period

-- ---- matches

-- neither line has the movement, or both have it, of one flight and at one minute
abbrev pub is_same_stop : Option Stop → Option Stop → Bool
is_same_stop None None = true
is_same_stop None (Some other) = false
is_same_stop (Some stop) None = false
is_same_stop (Some stop) (Some other) =
    is_flight stop.flight other.flight && stop.minute == other.minute

abbrev pub is_state : State → State → Bool
is_state Confirmed Confirmed = true
is_state Confirmed Offered = false
is_state Offered Confirmed = false
is_state Offered Offered = true

-- a holding in this state with the line's flights, times and nights, and with all dates of the line
abbrev pub matches : Term → State → Line → Holding → Bool
matches season state line holding =
    is_state state holding.state
    && (is_same_stop line.arrival holding.line.arrival
    && (is_same_stop line.departure holding.line.departure
    && (line.nights == holding.line.nights
    && has_all_dates season holding.line.period line.period)))

-- ---- cuts

-- the same data and state in another period
abbrev pub in_period : Holding → Period → Holding
in_period holding period = record holding { line = record holding.line { period = period } }

-- what is left of a holding: its days before the period, those within it on the weekdays that the
-- period lacks, and those after it
abbrev pub cut_holding : Term → Period → Holding → List Holding
cut_holding season period holding =
    map (in_period holding) (cut_periods (cut_of season holding.line.period period))

-- ---- the first of some holdings that passes a test, replaced by others

abbrev pub replace_first : (Holding → Bool) → (Holding → List Holding) → List Holding →
    Option (List Holding)
replace_first test others [] = None
replace_first test others (holding ∷ holdings) =
    if test holding then Some (others holding ++ holdings)
    else option_map (λ rest. holding ∷ rest) (replace_first test others holdings)
