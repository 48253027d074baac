-- The lines at the times of alternatives have a spelling.
use Rattle.std.proofs.Common.{◌≡◌, ℕ, ◌+◌, ◌*◌, ◌/◌, ◌<◌, ◌≤◌, List, [], ◌∷◌, Some, None, refl, arith, inl, inr}
use Rattle.std.specs.Prelude.{Option, All, nat_le, is_some}
use Rattle.std.specs.List.{filter, list_any}
use Rattle.std.proofs.lemmas.Bool.{cases_Bool, leb-true}
use Rattle.std.proofs.lemmas.Nat.{mod_below, div_below}
use Rattle.std.proofs.lemmas.List.Elements.{All-nil, All-cons, All-head, All-tail, All-append, All-weaker, All-map, All-filter}
use Rattle.season_days.specs.Term.{Term}
use Rattle.season_days.specs.declared.declaration.Declaration.{Declaration}
use Rattle.scr_reader.specs.declared.line.Line.{Line}
use Rattle.scr_reader.specs.declared.line.Stop.{Stop}
use Rattle.scr_reader.specs.Printed.{StopsFit, LineFits}
use Rattle.series_model.specs.declared.group.Group.{Group}
use Rattle.series_model.specs.declared.group.Group.TheVariants.{F, R, L, B, N}
use Rattle.series_model.specs.declared.unit.Unit.{Unit as SlotUnit}
use Rattle.series_model.specs.declared.times.Times.{Times}
use Rattle.series_model.specs.declared.times.Times.TheVariants.{Refused, At}
use Rattle.series_model.specs.Units.{IsHistoric, HistoricFits, UnitFits}
use Rattle.series_model.specs.Options.{relative_minute, line_times, stop_shifts, least_ground, pairs_at, pairs_of, shifts_by, shifts_of, lies_between, are_same, with_times, with_refused, options_by, options_of}
use Rattle.series_model.specs.TimedLines.{stop_at, line_at}
use Rattle.series_model.proofs.BoundLemmas.{shifts_below, few_nights, arrives_early, leaves_early}

-- a departure is on the date of a line that has it alone, and not before the arrival where there are both; a movement that is not there has 0
abbrev InOrder : Option Stop → Option Stop → ℕ → ℕ → Type 0
InOrder (Some coming) (Some going) arrival departure = arrival ≤ departure
InOrder (Some coming) None arrival departure = departure ≡ 0
InOrder None (Some going) arrival departure = (arrival ≡ 0) × (departure < 1440)
InOrder None None arrival departure = (arrival ≡ 0) × (departure ≡ 0)

abbrev pub IsTimed : Option Stop → Option Stop → Times → Type 0
IsTimed a g Refused = Unit {0}
IsTimed a g (At arrival departure) = (arrival < 1440) × (departure < 14400) × InOrder a g arrival departure

-- ---- a line at such times

stops_at : (line : Line) (a g : Option Stop) (arrival departure : ℕ) → StopsFit line a g → IsTimed a g (At arrival departure) →
    StopsFit (record line { arrival = stop_at line.arrival arrival; departure = stop_at line.departure departure; nights = departure / 1440 }) (stop_at a arrival) (stop_at g departure)
stops_at line None None arrival departure fits timed = absurd fits
stops_at line (Some coming) None arrival departure fits timed =
    (record { flight = fits.0.flight; minute = mod_below arrival 1440 (omega arith); stations = fits.0.stations; service = fits.0.service }, omega (arith, timed.2))
stops_at line None (Some going) arrival departure fits timed =
    (record { flight = fits.0.flight; minute = mod_below departure 1440 (omega arith); stations = fits.0.stations; service = fits.0.service }, omega (arith, timed.2.1))
stops_at line (Some coming) (Some going) arrival departure fits timed = (
  record { flight = fits.0.flight; minute = mod_below arrival 1440 (omega arith); stations = fits.0.stations; service = fits.0.service },
  record { flight = fits.1.flight; minute = mod_below departure 1440 (omega arith); stations = fits.1.stations; service = fits.1.service },
  div_below departure 1440 10 (omega arith) (omega (arith, timed.1)),
  omega (arith, timed.0, timed.2),
)

pub line-fits : (season : Term) (line : Line) (times : Times) → LineFits season line → IsTimed line.arrival line.departure times → LineFits season (line_at line times)
line-fits season line Refused fits timed = fits
line-fits season line (At arrival departure) fits timed = record {
  stops = stops_at line line.arrival line.departure arrival departure fits.stops timed;
  first = fits.first;
  last = fits.last;
  ordered = fits.ordered;
  week = fits.week;
  dated = fits.dated;
  seats = fits.seats;
  craft = fits.craft;
}

-- ---- shifts

kept_late : (least : ℕ) (xs : List ℕ) → All (λ x. least ≤ x) (filter (λ x. nat_le least x) xs)
kept_late least [] = All-nil (λ x. least ≤ x)
kept_late least (x ∷ xs) =
    elim (cases_Bool (nat_le least x)) [
      | inl kept ↦ rw kept (All-cons (λ y. least ≤ y) x (filter (λ y. nat_le least y) xs) (leb-true least x kept) (kept_late least xs))
      | inr off ↦ rw off (kept_late least xs)
    ]

All-both : {X : Type 0} (P Q : X → Type 0) (xs : List X) → All P xs → All Q xs → All (λ x. P x × Q x) xs
All-both P Q xs ps qs k d lt = (ps k d lt, qs k d lt)

pairs_timed : (coming going : Stop) (least : ℕ) (comings goings : List ℕ) → All (λ x. x < 1440) comings → All (λ x. x < 14400) goings → All (IsTimed (Some coming) (Some going)) (pairs_of least comings goings)
pairs_timed coming going least [] goings early late = All-nil (IsTimed (Some coming) (Some going))
pairs_timed coming going least (a ∷ comings) goings early late =
    All-append (IsTimed (Some coming) (Some going)) (pairs_at least goings a) (pairs_of least comings goings) (one (All-head (λ x. x < 1440) a comings early))
    (pairs_timed coming going least comings goings (All-tail (λ x. x < 1440) a comings early) late)
  where
    one : a < 1440 → All (IsTimed (Some coming) (Some going)) (pairs_at least goings a)
    one lt =
        let kept = filter (λ departure. nat_le (a + least) departure) goings in
        All-map (IsTimed (Some coming) (Some going)) (λ (departure : ℕ). At a departure) kept
        (All-weaker (λ x. (x < 14400) × (a + least ≤ x)) (λ departure. IsTimed (Some coming) (Some going) (At a departure)) (λ x both. (lt, both.0, omega (arith, both.1))) kept
        (All-both (λ x. x < 14400) (λ x. a + least ≤ x) kept (All-filter (λ departure. nat_le (a + least) departure) (λ x. x < 14400) goings late) (kept_late (a + least) goings)))

pub shifts_timed : (d : Declaration) (line : Line) (a g : Option Stop) → StopsFit line a g → All (IsTimed a g) (shifts_by d line.nights a g)
shifts_timed d line None None fits = All-nil (IsTimed None None)
shifts_timed d line (Some coming) None fits =
    All-map (IsTimed (Some coming) None) (λ (arrival : ℕ). At arrival 0) (stop_shifts d 0 coming)
    (All-weaker (λ x. x < 1440) (λ arrival. IsTimed (Some coming) None (At arrival 0)) (λ x l. (l, omega arith, refl)) (stop_shifts d 0 coming) (shifts_below d 0 1440 coming (omega arith)))
shifts_timed d line None (Some going) fits =
    All-map (IsTimed None (Some going)) (λ (departure : ℕ). At 0 departure) (stop_shifts d line.nights going)
    (All-weaker (λ x. x < 1440) (λ departure. IsTimed None (Some going) (At 0 departure)) (λ x l. (omega arith, omega (arith, l), (refl, l))) (stop_shifts d line.nights going) (shifts_below d line.nights 1440 going (omega (arith, fits.1))))
shifts_timed d line (Some coming) (Some going) fits =
    pairs_timed coming going (least_ground d coming.minute (1440 * line.nights + going.minute)) (stop_shifts d 0 coming) (stop_shifts d line.nights going)
    (shifts_below d 0 1440 coming (omega arith)) (shifts_below d line.nights 14400 going (omega (arith, fits.2)))

-- ---- the times that a line names

in_order : (line : Line) (a g : Option Stop) → StopsFit line a g → InOrder a g (relative_minute 0 a) (relative_minute line.nights g)
in_order line None None fits = absurd fits
in_order line (Some coming) None fits = refl
in_order line None (Some going) fits = (refl, omega (arith, fits.0.minute, fits.1))
in_order line (Some coming) (Some going) fits = omega (arith, fits.3)

line_timed : (line : Line) → StopsFit line line.arrival line.departure → IsTimed line.arrival line.departure (line_times line)
line_timed line fits = (
  arrives_early line line.arrival line.departure fits,
  leaves_early line line.arrival line.departure (few_nights line line.arrival line.departure fits) fits,
  in_order line line.arrival line.departure fits,
)

-- a line with the same movements
same_order : (a g b h : Option Stop) (arrival departure : ℕ) → is_some b ≡ is_some a → is_some h ≡ is_some g → InOrder b h arrival departure → InOrder a g arrival departure
same_order None None None None arrival departure comes goes is = is
same_order None None (Some x) h arrival departure comes goes is = absurd cc
same_order None None None (Some y) arrival departure comes goes is = absurd cc
same_order None (Some g) None None arrival departure comes goes is = absurd cc
same_order None (Some g) None (Some h) arrival departure comes goes is = is
same_order None (Some g) (Some b) h arrival departure comes goes is = absurd cc
same_order (Some a) None None h arrival departure comes goes is = absurd cc
same_order (Some a) None (Some b) None arrival departure comes goes is = is
same_order (Some a) None (Some b) (Some h) arrival departure comes goes is = absurd cc
same_order (Some a) (Some g) None h arrival departure comes goes is = absurd cc
same_order (Some a) (Some g) (Some b) None arrival departure comes goes is = absurd cc
same_order (Some a) (Some g) (Some b) (Some h) arrival departure comes goes is = is

historic_timed : (season : Term) (request historic : Line) → IsHistoric season request historic → IsTimed request.arrival request.departure (line_times historic)
historic_timed season request historic has =
    let timed = line_timed historic has.fits.stops in
    (timed.0, timed.1, same_order request.arrival request.departure historic.arrival historic.departure _ _ has.arrivals has.departures timed.2)

-- ---- alternatives of a unit

with_all : (P : Times → Type 0) (options : List Times) (times : Times) → All P options → P times → All P (with_times options times)
with_all P options times all one =
    elim (cases_Bool (list_any (are_same times) options)) [
      | inl there ↦ rw there all
      | inr missing ↦ rw missing (All-append P options (times ∷ []) all (All-cons P times [] one (All-nil P)))
    ]

refused_all : (P : Times → Type 0) (price : Option ℕ) (options : List Times) → P Refused → All P options → All P (with_refused options price)
refused_all P None options one all = all
refused_all P (Some price) options one all = All-append P options (Refused ∷ []) all (All-cons P Refused [] one (All-nil P))

pub group_timed : (d : Declaration) (request : Line) (historic : Option Line) (group : Group) → LineFits d.season request → HistoricFits d.season request group historic →
    All (IsTimed request.arrival request.departure) (options_by d request historic group)
group_timed d request historic F fits has =
    All-cons (IsTimed request.arrival request.departure) (line_times request) [] (line_timed request fits.stops) (All-nil (IsTimed request.arrival request.departure))
group_timed d request None R fits has = absurd has
group_timed d request (Some historic) R fits has =
    with_all (IsTimed request.arrival request.departure) (filter (lies_between historic request) (shifts_of d request)) (line_times historic)
    (All-filter (lies_between historic request) (IsTimed request.arrival request.departure) (shifts_of d request) (shifts_timed d request request.arrival request.departure fits.stops)) (historic_timed d.season request historic has)
group_timed d request None L fits has = absurd has
group_timed d request (Some historic) L fits has =
    with_all (IsTimed request.arrival request.departure) (line_times request ∷ []) (line_times historic)
    (All-cons (IsTimed request.arrival request.departure) (line_times request) [] (line_timed request fits.stops) (All-nil (IsTimed request.arrival request.departure))) (historic_timed d.season request historic has)
group_timed d request historic B fits has = refused_all (IsTimed request.arrival request.departure) d.refuse (shifts_of d request) tt (shifts_timed d request request.arrival request.departure fits.stops)
group_timed d request historic N fits has = refused_all (IsTimed request.arrival request.departure) d.refuse (shifts_of d request) tt (shifts_timed d request request.arrival request.departure fits.stops)

pub options_spelled : (d : Declaration) (unit : SlotUnit) → UnitFits d.season unit → All (λ times. LineFits d.season (line_at unit.request times)) (options_of d unit)
options_spelled d unit fits =
    All-weaker (IsTimed unit.request.arrival unit.request.departure) (λ times. LineFits d.season (line_at unit.request times)) (λ times timed. line-fits d.season unit.request times fits.request timed)
    (options_of d unit) (group_timed d unit.request unit.historic unit.group fits.request fits.historic)

pub shifts_spelled : (d : Declaration) (line : Line) → LineFits d.season line → All (λ times. LineFits d.season (line_at line times)) (shifts_of d line)
shifts_spelled d line fits =
    All-weaker (IsTimed line.arrival line.departure) (λ times. LineFits d.season (line_at line times)) (λ times timed. line-fits d.season line times fits timed)
    (shifts_of d line) (shifts_timed d line line.arrival line.departure fits.stops)
