-- A line at the times of an alternative has the movements of these times, and a shift that costs nothing is none.
use Rattle.std.proofs.Common.{◌≡◌, ◌≢◌, ℕ, zero, suc, ◌+◌, ◌*◌, ◌/◌, ◌<◌, List, [], ◌∷◌, length, Some, None, refl, sym, ap, ◌∙◌, subst, arith}
use Rattle.std.specs.Prelude.{Option, Contains, IsSomeAnd, is_some}
use Rattle.std.specs.List.{flat_map}
use Rattle.std.proofs.Math.Nat.{suc-mul}
use Rattle.std.proofs.lemmas.List.Elements.{All-contains}
use Rattle.season_days.specs.Term.{Term}
use Rattle.season_days.specs.Seasons.{dates_of}
use Rattle.season_days.specs.declared.day.Period.{Period}
use Rattle.season_days.specs.declared.declaration.Declaration.{Declaration}
use Rattle.season_days.specs.declared.declaration.Kind.{Kind}
use Rattle.season_days.specs.declared.declaration.Kind.TheVariants.{Arr, Dep}
use Rattle.scr_reader.specs.Printed.{LineFits}
use Rattle.scr_reader.specs.declared.line.Line.{Line}
use Rattle.scr_reader.specs.declared.line.Stop.{Stop}
use Rattle.series_model.specs.declared.group.Group.{Group}
use Rattle.series_model.specs.declared.group.Group.TheVariants.{F, R, L, B, N}
use Rattle.series_model.specs.declared.unit.Unit.{Unit as SlotUnit}
use Rattle.series_model.specs.declared.times.Times.{Times}
use Rattle.series_model.specs.declared.times.Times.TheVariants.{Refused, At}
use Rattle.series_model.specs.Units.{IsHistoric, HistoricFits, UnitFits}
use Rattle.series_model.specs.Displacement.{stop_change, line_change, line_dates, cost_at}
use Rattle.series_model.specs.Movements.{stop_on, movements_on, movements_at, movements_of}
use Rattle.series_model.specs.Options.{relative_minute, line_times, shifts_of, options_of, TimesFit}
use Rattle.series_model.specs.TimedLines.{stop_at, line_at, line_movements}
use Rattle.series_model.proofs.BoundLemmas.{shifts_fit}
use Rattle.series_model.proofs.TimedLemmas.{IsTimed, shifts_timed, group_timed}

-- ---- a line at the times of a shift

comes_back : (a g : Option Stop) (arrival departure : ℕ) → IsTimed a g (At arrival departure) → relative_minute 0 (stop_at a arrival) ≡ arrival
comes_back None None arrival departure timed = sym timed.2.0
comes_back None (Some going) arrival departure timed = sym timed.2.0
comes_back (Some coming) g arrival departure timed = omega (arith, timed.0)

goes_back : (a g : Option Stop) (arrival departure : ℕ) → IsTimed a g (At arrival departure) → relative_minute (departure / 1440) (stop_at g departure) ≡ departure
goes_back None None arrival departure timed = sym timed.2.1
goes_back (Some coming) None arrival departure timed = sym timed.2
goes_back a (Some going) arrival departure timed = omega arith

timed_times : (line : Line) (arrival departure : ℕ) → IsTimed line.arrival line.departure (At arrival departure) → line_times (line_at line (At arrival departure)) ≡ At arrival departure
timed_times line arrival departure timed =
    ap (λ (x : ℕ). At x (relative_minute (departure / 1440) (stop_at line.departure departure))) (comes_back line.arrival line.departure arrival departure timed)
    ∙ ap (λ (y : ℕ). At arrival y) (goes_back line.arrival line.departure arrival departure timed)

-- which movements a line has on a date depends on its stops alone by whether they are there
same_on : (season : Term) (kind : Kind) (stop other : Option Stop) (minute date : ℕ) → is_some stop ≡ is_some other → stop_on season kind stop minute date ≡ stop_on season kind other minute date
same_on season kind None None minute date same = refl
same_on season kind None (Some other) minute date same = absurd cc
same_on season kind (Some stop) None minute date same = absurd cc
same_on season kind (Some stop) (Some other) minute date same = refl

same_movements : (season : Term) (line other : Line) (arrival departure : ℕ) (dates : List ℕ) → is_some line.arrival ≡ is_some other.arrival → is_some line.departure ≡ is_some other.departure →
    flat_map (movements_on season line arrival departure) dates ≡ flat_map (movements_on season other arrival departure) dates
same_movements season line other arrival departure [] comes goes = refl
same_movements season line other arrival departure (date ∷ dates) comes goes =
    let one = same_on season Arr line.arrival other.arrival arrival date comes in
    let two = same_on season Dep line.departure other.departure departure date goes in
    let rest = same_movements season line other arrival departure dates comes goes in
    cc

still_there : (stop : Option Stop) (minute : ℕ) → is_some (stop_at stop minute) ≡ is_some stop
still_there None minute = refl
still_there (Some stop) minute = refl

timed_line : (season : Term) (line : Line) (arrival departure : ℕ) → IsTimed line.arrival line.departure (At arrival departure) →
    line_movements season (line_at line (At arrival departure)) ≡ movements_at season line (At arrival departure)
timed_line season line arrival departure timed =
    ap (λ (t : Times). movements_at season (line_at line (At arrival departure)) t) (timed_times line arrival departure timed)
    ∙ same_movements season (line_at line (At arrival departure)) line arrival departure (dates_of season line.period) (still_there line.arrival arrival) (still_there line.departure departure)

-- ---- of a line, and of a unit

pub shift_movements : (d : Declaration) (line : Line) (times : Times) → LineFits d.season line → Contains (shifts_of d line) times → line_movements d.season (line_at line times) ≡ movements_at d.season line times
shift_movements d line times fits has =
    shift_by d line times (All-contains (TimesFit None) (shifts_of d line) times (shifts_fit d line fits) has)
    (All-contains (IsTimed line.arrival line.departure) (shifts_of d line) times (shifts_timed d line line.arrival line.departure fits.stops) has)
  where
    shift_by : (d : Declaration) (line : Line) (times : Times) → TimesFit None times → IsTimed line.arrival line.departure times → line_movements d.season (line_at line times) ≡ movements_at d.season line times
    shift_by d line Refused fits timed = absurd cc
    shift_by d line (At arrival departure) fits timed = timed_line d.season line arrival departure timed

pub alternative_movements : (d : Declaration) (unit : SlotUnit) (arrival departure : ℕ) → UnitFits d.season unit → Contains (options_of d unit) (At arrival departure) →
    line_movements d.season (line_at unit.request (At arrival departure)) ≡ movements_of d.season unit (At arrival departure)
alternative_movements d unit arrival departure fits has =
    timed_line d.season unit.request arrival departure
    (All-contains (IsTimed unit.request.arrival unit.request.departure) (options_of d unit) (At arrival departure) (group_timed d unit.request unit.historic unit.group fits.request fits.historic) has)

-- the historic line of a unit
is_historic : (season : Term) (request historic : Line) (group : Group) (of : Option Line) → of ≡ Some historic → HistoricFits season request group of → IsHistoric season request historic
is_historic season request historic F of is has = absurd cc
is_historic season request historic R of is has = subst (λ (o : Option Line). IsSomeAnd o (IsHistoric season request)) is has
is_historic season request historic L of is has = subst (λ (o : Option Line). IsSomeAnd o (IsHistoric season request)) is has
is_historic season request historic B of is has = absurd cc
is_historic season request historic N of is has = absurd cc

pub historic_movements : (season : Term) (unit : SlotUnit) (historic : Line) → UnitFits season unit → unit.historic ≡ Some historic → line_movements season historic ≡ movements_of season unit (line_times historic)
historic_movements season unit historic fits is =
    let has = is_historic season unit.request historic unit.group unit.historic is fits.historic in
    let arrival = relative_minute 0 historic.arrival in
    let departure = relative_minute historic.nights historic.departure in
    ap (λ (p : Period). flat_map (movements_on season historic arrival departure) (dates_of season p)) (sym has.period)
    ∙ same_movements season historic unit.request arrival departure (dates_of season unit.request.period) has.arrivals has.departures

-- ---- a shift that costs nothing

unmoved : (nights : ℕ) (stop : Option Stop) → stop_change nights stop (relative_minute nights stop) ≡ 0
unmoved nights None = refl
unmoved nights (Some stop) = omega arith

pub own_cost : (d : Declaration) (line : Line) → cost_at d line (line_times line) ≡ 0
own_cost d line =
    let none : line_change line (relative_minute 0 line.arrival) (relative_minute line.nights line.departure) ≡ 0 = omega (arith, unmoved 0 line.arrival, unmoved line.nights line.departure) in
    ap (λ (k : ℕ). line_dates d.season line * k) none ∙ omega arith

factor : (n m : ℕ) → 0 < n → n * m ≡ 0 → m ≡ 0
factor n zero lt e = refl
factor (suc n) (suc m) lt e = absurd (omega (arith, e, suc-mul n (suc m)))
factor zero (suc m) lt e = absurd (omega (arith, lt))

some_dates : (xs : List ℕ) → xs ≢ [] → 0 < length xs
some_dates [] some = absurd (some refl)
some_dates (x ∷ xs) some = omega arith

-- a stop that is not moved, where one that is not there has 0
still_coming : (a g : Option Stop) (arrival departure : ℕ) → IsTimed a g (At arrival departure) → stop_change 0 a arrival ≡ 0 → relative_minute 0 a ≡ arrival
still_coming None None arrival departure timed e = sym timed.2.0
still_coming None (Some going) arrival departure timed e = sym timed.2.0
still_coming (Some coming) g arrival departure timed e = omega (arith, e)

still_going : (nights : ℕ) (a g : Option Stop) (arrival departure : ℕ) → IsTimed a g (At arrival departure) → stop_change nights g departure ≡ 0 → relative_minute nights g ≡ departure
still_going nights None None arrival departure timed e = sym timed.2.1
still_going nights (Some coming) None arrival departure timed e = sym timed.2
still_going nights a (Some going) arrival departure timed e = omega (arith, e)

pub free_is_own : (d : Declaration) (line : Line) (times : Times) → LineFits d.season line → Contains (shifts_of d line) times → cost_at d line times ≡ 0 → line_times line ≡ times
free_is_own d line times fits has free =
    free_by d line times fits (All-contains (TimesFit None) (shifts_of d line) times (shifts_fit d line fits) has)
    (All-contains (IsTimed line.arrival line.departure) (shifts_of d line) times (shifts_timed d line line.arrival line.departure fits.stops) has) free
  where
    free_by : (d : Declaration) (line : Line) (times : Times) → LineFits d.season line → TimesFit None times → IsTimed line.arrival line.departure times → cost_at d line times ≡ 0 → line_times line ≡ times
    free_by d line Refused fits good timed free = absurd cc
    free_by d line (At arrival departure) fits good timed free =
        let n : 0 < length (dates_of d.season line.period) = some_dates (dates_of d.season line.period) fits.dated in
        let c : stop_change 0 line.arrival arrival + stop_change line.nights line.departure departure ≡ 0 = factor (length (dates_of d.season line.period)) _ n free in
        let one = still_coming line.arrival line.departure arrival departure timed (omega (arith, c)) in
        let other = still_going line.nights line.arrival line.departure arrival departure timed (omega (arith, c)) in
        ap (λ (x : ℕ). At x (relative_minute line.nights line.departure)) one ∙ ap (λ (y : ℕ). At arrival y) other
