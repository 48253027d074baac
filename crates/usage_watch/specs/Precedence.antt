-- Historic precedence. A series of slots that was operated on at least 80 per cent of its dates has
-- precedence in the next equivalent season. See the Worldwide Airport Slot Guidelines on historic
-- slots, and on series: at least five slots on the same weekday.
use Rattle.std.specs.Prelude.{ℕ, ◌*◌, ◌==◌, ◌&&◌, Bool, true, false, nat_le, nat_lt, List, length, Option, Some, None}
use Rattle.std.specs.List.{filter, list_any}
use Rattle.season_days.specs.Term.{Term}
use Rattle.season_days.specs.Seasons.{weekday_on, dates_of}
use Rattle.season_days.specs.Periods.{is_date_of}
use Rattle.season_days.specs.declared.declaration.Kind.{Kind}
use Rattle.season_days.specs.declared.declaration.Kind.TheVariants.{Arr, Dep, Tot}
use Rattle.scr_reader.specs.declared.line.Flight.{Flight}
use Rattle.scr_reader.specs.declared.line.Stop.{Stop}
use Rattle.scr_reader.specs.declared.line.Line.{Line}
use Rattle.holding_book.specs.Lines.{is_flight}
use Rattle.usage_watch.specs.declared.operated.Operated.{Operated}
use Rattle.usage_watch.specs.declared.tally.TheConstants.{FEWEST_DATES, LEAST_PER_CENT}

-- ---- what was operated

-- arrivals, or departures
abbrev pub is_kind : Kind → Kind → Bool
is_kind Arr Arr = true
is_kind Arr Dep = false
is_kind Arr Tot = false
is_kind Dep Arr = false
is_kind Dep Dep = true
is_kind Dep Tot = false
is_kind Tot kind = false

-- the report is of this kind and flight, and the day is one of its dates
abbrev pub reports_on : Term → Kind → Flight → ℕ → Operated → Bool
reports_on season kind flight day report =
    is_kind kind report.kind && (is_flight report.flight flight
    && is_date_of season report.period day)

-- some report is
abbrev pub is_reported : Term → List Operated → Kind → Flight → ℕ → Bool
is_reported season reports kind flight day = list_any (reports_on season kind flight day) reports

-- the movement is reported, if the line has it
abbrev pub is_stop_reported : Term → List Operated → Kind → Option Stop → ℕ → Bool
is_stop_reported season reports kind None day = true
is_stop_reported season reports kind (Some stop) day =
    is_reported season reports kind stop.flight day

-- A date of a line is operated where each movement of the line has a report for it. The departure
-- of a turnaround is reported for the date of its arrival, also where it leaves nights later.
abbrev pub is_operated : Term → List Operated → Line → ℕ → Bool
is_operated season reports line day =
    is_stop_reported season reports Arr line.arrival day
    && is_stop_reported season reports Dep line.departure day

-- ---- series

-- the dates of a line on one weekday, from 1 for Monday to 7 for Sunday
abbrev pub series_dates : Term → Line → ℕ → List ℕ
series_dates season line weekday =
    filter (λ day. weekday_on season day == weekday) (dates_of season line.period)

-- those that were operated
abbrev pub operated_dates : Term → List Operated → Line → ℕ → List ℕ
operated_dates season reports line weekday =
    filter (is_operated season reports line) (series_dates season line weekday)

-- a line and a weekday make a series where there is a date
abbrev pub is_series : Term → Line → ℕ → Bool
is_series season line weekday = nat_lt 0 (length (series_dates season line weekday))

-- so many operated dates of so many are enough: of at least five, at least 80 per cent
abbrev pub is_enough : ℕ → ℕ → Bool
is_enough operated dates =
    nat_le FEWEST_DATES dates && nat_le (LEAST_PER_CENT * dates) (100 * operated)

abbrev pub has_precedence : Term → List Operated → Line → ℕ → Bool
has_precedence season reports line weekday =
    is_enough (length (operated_dates season reports line weekday))
    (length (series_dates season line weekday))
