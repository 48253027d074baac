-- How late alternatives are, what they cost at most, and that there is one.
use Rattle.std.proofs.Common.{◌≡◌, ℕ, zero, suc, ◌+◌, ◌-◌, ◌*◌, ◌%◌, ◌^◌, ◌<◌, ◌≤◌, Bool, true, List, [], ◌∷◌, length, get_or, map, Some, None, refl, sym, ap, subst, ◌∙◌, arith, inl, inr}
use Rattle.std.specs.Prelude.{Option, All, Contains, IsSomeAnd, nat_le, is_some, if◌then◌else◌}
use Rattle.std.specs.Option.{ForSome, unwrap_or}
use Rattle.std.specs.List.{filter, range_with_len, list_any, count_by}
use Rattle.std.proofs.lemmas.List.Sums.{length-filter, count_by-le-length}
use Rattle.series_model.specs.Displacement.{stop_change, line_change, stop_count, line_dates, cost_at, displacement_of}
use Rattle.std.specs.Int.{abs_diff}
use Rattle.std.proofs.lemmas.Bool.{cases_Bool, cases_eq, le-leb, eq-eqb, and_from}
use Rattle.std.proofs.lemmas.Nat.{mul-le}
use Rattle.std.proofs.Math.Nat.{zero-mod}
use Rattle.std.proofs.lemmas.List.{length-append}
use Rattle.std.proofs.lemmas.List.Elements.{All-nil, All-cons, All-head, All-tail, All-append, All-weaker, All-map, All-filter, Contains-append_left, Contains-append_right}
use Rattle.season_days.specs.Term.{Term}
use Rattle.season_days.specs.Seasons.{date_count, is_on, days_from}
use Rattle.season_days.specs.declared.declaration.Declaration.{Declaration}
use Rattle.scr_reader.specs.declared.line.Line.{Line}
use Rattle.scr_reader.specs.declared.line.Stop.{Stop}
use Rattle.scr_reader.specs.Printed.{StopsFit, LineFits}
use Rattle.series_model.specs.declared.group.Group.{Group}
use Rattle.series_model.specs.declared.group.Group.TheVariants.{F, R, L, B, N}
use Rattle.series_model.specs.declared.unit.Unit.{Unit as SlotUnit}
use Rattle.series_model.specs.declared.times.Times.{Times}
use Rattle.series_model.specs.declared.times.Times.TheVariants.{Refused, At}
use Rattle.series_model.specs.Units.{IsHistoric, HistoricFits, UnitFits}
use Rattle.series_model.specs.Options.{relative_minute, line_times, is_shift, date_minutes, stop_shifts, least_ground, pairs_at, pairs_of, shifts_by, shifts_of, lies_between, are_same, with_times, with_refused, flexible_options, either_options, options_by, options_of, TimesFit}

-- ---- minutes of a date

range_below : (a n : ℕ) → All (λ x. x < a + n) (range_with_len a n)
range_below a zero = All-nil (λ x. x < a + 0)
range_below a (suc n) =
    All-cons (λ x. x < a + suc n) a (range_with_len (a + 1) n) (omega arith)
    (All-weaker (λ x. x < a + 1 + n) (λ x. x < a + suc n) (λ x lt. omega (arith, lt)) (range_with_len (a + 1) n) (range_below (a + 1) n))

date_below : (nights : ℕ) → All (λ x. x < 1440 * nights + 1440) (date_minutes nights)
unfolding date_minutes
date_below nights = range_below (1440 * nights) 1440

pub shifts_below : (d : Declaration) (nights most : ℕ) (stop : Stop) → 1440 * nights + 1440 ≤ most → All (λ x. x < most) (stop_shifts d nights stop)
shifts_below d nights most stop le =
    All-weaker (λ x. x < 1440 * nights + 1440) (λ x. x < most) (λ x lt. omega (arith, lt, le)) (stop_shifts d nights stop)
    (All-filter (is_shift d.step d.flex (1440 * nights + stop.minute)) (λ x. x < 1440 * nights + 1440) (date_minutes nights) (date_below nights))

-- ---- alternatives of a line

pairs_good : (price : Option ℕ) (least : ℕ) (comings goings : List ℕ) → All (λ x. x < 1440) comings → All (λ x. x < 14400) goings → All (TimesFit price) (pairs_of least comings goings)
pairs_good price least [] goings early late = All-nil (TimesFit price)
pairs_good price least (a ∷ comings) goings early late =
    All-append (TimesFit price) (pairs_at least goings a) (pairs_of least comings goings) (one price least a goings (All-head (λ x. x < 1440) a comings early) late)
    (pairs_good price least comings goings (All-tail (λ x. x < 1440) a comings early) late)
  where
    one : (price : Option ℕ) (least a : ℕ) (goings : List ℕ) → a < 1440 → All (λ x. x < 14400) goings → All (TimesFit price) (pairs_at least goings a)
    one price least a goings lt late =
        let kept = filter (λ departure. nat_le (a + least) departure) goings in
        All-map (TimesFit price) (λ (departure : ℕ). At a departure) kept
        (All-weaker (λ x. x < 14400) (λ departure. TimesFit price (At a departure)) (λ x l. (lt, l)) kept (All-filter (λ departure. nat_le (a + least) departure) (λ x. x < 14400) goings late))

pub shifts_good : (d : Declaration) (price : Option ℕ) (nights : ℕ) (a g : Option Stop) → nights < 10 → All (TimesFit price) (shifts_by d nights a g)
shifts_good d price nights None None few = All-nil (TimesFit price)
shifts_good d price nights (Some coming) None few =
    All-map (TimesFit price) (λ (arrival : ℕ). At arrival 0) (stop_shifts d 0 coming)
    (All-weaker (λ x. x < 1440) (λ arrival. TimesFit price (At arrival 0)) (λ x l. (l, omega arith)) (stop_shifts d 0 coming) (shifts_below d 0 1440 coming (omega arith)))
shifts_good d price nights None (Some going) few =
    All-map (TimesFit price) (λ (departure : ℕ). At 0 departure) (stop_shifts d nights going)
    (All-weaker (λ x. x < 14400) (λ departure. TimesFit price (At 0 departure)) (λ x l. (omega arith, l)) (stop_shifts d nights going) (shifts_below d nights 14400 going (omega (arith, few))))
shifts_good d price nights (Some coming) (Some going) few =
    pairs_good price (least_ground d coming.minute (1440 * nights + going.minute)) (stop_shifts d 0 coming) (stop_shifts d nights going)
    (shifts_below d 0 1440 coming (omega arith)) (shifts_below d nights 14400 going (omega (arith, few)))

pub few_nights : (line : Line) (a g : Option Stop) → StopsFit line a g → line.nights < 10
few_nights line None None fits = absurd fits
few_nights line (Some coming) None fits = omega (arith, fits.1)
few_nights line None (Some going) fits = omega (arith, fits.1)
few_nights line (Some coming) (Some going) fits = fits.2

pub arrives_early : (line : Line) (a g : Option Stop) → StopsFit line a g → relative_minute 0 a < 1440
arrives_early line None g fits = omega arith
arrives_early line (Some coming) None fits = omega (arith, fits.0.minute)
arrives_early line (Some coming) (Some going) fits = omega (arith, fits.0.minute)

pub leaves_early : (line : Line) (a g : Option Stop) → line.nights < 10 → StopsFit line a g → relative_minute line.nights g < 14400
leaves_early line a None few fits = omega arith
leaves_early line None (Some going) few fits = omega (arith, few, fits.0.minute)
leaves_early line (Some coming) (Some going) few fits = omega (arith, few, fits.1.minute)

line_good : (price : Option ℕ) (season : Term) (line : Line) → LineFits season line → TimesFit price (line_times line)
line_good price season line fits =
    (arrives_early line line.arrival line.departure fits.stops, leaves_early line line.arrival line.departure (few_nights line line.arrival line.departure fits.stops) fits.stops)

-- ---- alternatives of a unit

with_good : (price : Option ℕ) (options : List Times) (times : Times) → All (TimesFit price) options → TimesFit price times → All (TimesFit price) (with_times options times)
with_good price options times all one =
    elim (cases_Bool (list_any (are_same times) options)) [
      | inl there ↦ rw there all
      | inr missing ↦ rw missing (All-append (TimesFit price) options (times ∷ []) all (All-cons (TimesFit price) times [] one (All-nil (TimesFit price))))
    ]

refused_good : (price : Option ℕ) (options : List Times) → All (TimesFit price) options → All (TimesFit price) (with_refused options price)
refused_good None options all = all
refused_good (Some price) options all = All-append (TimesFit (Some price)) options (Refused ∷ []) all (All-cons (TimesFit (Some price)) Refused [] refl (All-nil (TimesFit (Some price))))

flexible_good : (d : Declaration) (request : Line) (historic : Option Line) → LineFits d.season request → IsSomeAnd historic (IsHistoric d.season request) → All (TimesFit d.refuse) (flexible_options d request historic)
flexible_good d request None fits has = absurd has
flexible_good d request (Some historic) fits has =
    let shifts = shifts_good d d.refuse request.nights request.arrival request.departure (few_nights request request.arrival request.departure fits.stops) in
    with_good d.refuse (filter (lies_between historic request) (shifts_of d request)) (line_times historic) (All-filter (lies_between historic request) (TimesFit d.refuse) (shifts_of d request) shifts) (line_good d.refuse d.season historic has.fits)

either_good : (d : Declaration) (request : Line) (historic : Option Line) → LineFits d.season request → IsSomeAnd historic (IsHistoric d.season request) → All (TimesFit d.refuse) (either_options request historic)
either_good d request None fits has = absurd has
either_good d request (Some historic) fits has =
    with_good d.refuse (line_times request ∷ []) (line_times historic) (All-cons (TimesFit d.refuse) (line_times request) [] (line_good d.refuse d.season request fits) (All-nil (TimesFit d.refuse))) (line_good d.refuse d.season historic has.fits)

by_group : (d : Declaration) (request : Line) (historic : Option Line) (group : Group) → LineFits d.season request → HistoricFits d.season request group historic → All (TimesFit d.refuse) (options_by d request historic group)
by_group d request historic F fits has = All-cons (TimesFit d.refuse) (line_times request) [] (line_good d.refuse d.season request fits) (All-nil (TimesFit d.refuse))
by_group d request historic R fits has = flexible_good d request historic fits has
by_group d request historic L fits has = either_good d request historic fits has
by_group d request historic B fits has = refused_good d.refuse (shifts_of d request) (shifts_good d d.refuse request.nights request.arrival request.departure (few_nights request request.arrival request.departure fits.stops))
by_group d request historic N fits has = refused_good d.refuse (shifts_of d request) (shifts_good d d.refuse request.nights request.arrival request.departure (few_nights request request.arrival request.departure fits.stops))

pub options_good : (d : Declaration) (unit : SlotUnit) → UnitFits d.season unit → All (TimesFit d.refuse) (options_of d unit)
options_good d unit fits = by_group d unit.request unit.historic unit.group fits.request fits.historic

-- ---- costs

length-days_from : (first n : ℕ) → length (days_from first n) ≡ n
unfolding days_from
length-days_from first zero = refl
length-days_from first (suc n) = ap suc (length-days_from (suc first) n)

dates_few : (season : Term) (line : Line) → date_count season ≤ 217 → LineFits season line → line_dates season line ≤ 217
dates_few season line short fits =
    let first = line.period.first.0 in
    let days = line.period.last.0 + 1 - first in
    let counted : line_dates season line ≡ count_by (is_on season line.period.days) (days_from first days) = length-filter (is_on season line.period.days) (days_from first days) in
    omega (arith, counted, count_by-le-length (is_on season line.period.days) (days_from first days), length-days_from first days, fits.last, short)

coming_change : (line : Line) (a g : Option Stop) (minute : ℕ) → StopsFit line a g → minute < 1440 → stop_change 0 a minute ≤ 1439
coming_change line None g minute fits lt = omega arith
coming_change line (Some coming) None minute fits lt = omega (arith, lt, fits.0.minute)
coming_change line (Some coming) (Some going) minute fits lt = omega (arith, lt, fits.0.minute)

going_change : (line : Line) (a g : Option Stop) (minute : ℕ) → line.nights < 10 → StopsFit line a g → minute < 14400 → stop_change line.nights g minute ≤ 14399
going_change line a None minute few fits lt = omega arith
going_change line None (Some going) minute few fits lt = omega (arith, lt, few, fits.0.minute)
going_change line (Some coming) (Some going) minute few fits lt = omega (arith, lt, few, fits.1.minute)

stops_few : (line : Line) (a g : Option Stop) → (if is_some a then 1 else 0) + (if is_some g then 1 else 0) ≤ 2
stops_few line None None = omega arith
stops_few line None (Some going) = omega arith
stops_few line (Some coming) None = omega arith
stops_few line (Some coming) (Some going) = omega arith

price_few : (price : Option ℕ) → ForSome price (λ p. p ≤ 9999) → unwrap_or price 0 ≤ 9999
price_few None few = omega arith
price_few (Some p) few = few p refl

cost_small : (d : Declaration) (line : Line) (times : Times) → date_count d.season ≤ 217 → LineFits d.season line → ForSome d.refuse (λ p. p ≤ 9999) → TimesFit d.refuse times → cost_at d line times < 2 ^ 24
cost_small d line Refused short fits few good =
    let dates = dates_few d.season line short fits in
    let stops = stops_few line line.arrival line.departure in
    let price = price_few d.refuse few in
    let one : unwrap_or d.refuse 0 * stop_count line ≤ 9999 * 2 = mul-le (unwrap_or d.refuse 0) (stop_count line) 9999 2 price stops in
    let all : unwrap_or d.refuse 0 * stop_count line * line_dates d.season line ≤ 9999 * 2 * 217 = mul-le (unwrap_or d.refuse 0 * stop_count line) (line_dates d.season line) (9999 * 2) 217 one dates in
    omega (arith, all)
cost_small d line (At arrival departure) short fits few good =
    let dates = dates_few d.season line short fits in
    let nights = few_nights line line.arrival line.departure fits.stops in
    let coming = coming_change line line.arrival line.departure arrival fits.stops good.0 in
    let going = going_change line line.arrival line.departure departure nights fits.stops good.1 in
    let change : line_change line arrival departure ≤ 15838 = omega (arith, coming, going) in
    let all : line_dates d.season line * line_change line arrival departure ≤ 217 * 15838 = mul-le (line_dates d.season line) (line_change line arrival departure) 217 15838 dates change in
    omega (arith, all)

pub options_cheap : ((season : Term) → (147 ≤ date_count season) × (date_count season ≤ 217)) → (d : Declaration) (unit : SlotUnit) → UnitFits d.season unit → ForSome d.refuse (λ p. p ≤ 9999) → All (λ times. displacement_of d unit times < 2 ^ 24) (options_of d unit)
options_cheap lengths d unit fits few =
    All-weaker (TimesFit d.refuse) (λ times. displacement_of d unit times < 2 ^ 24) (λ times good. cost_small d unit.request times (lengths d.season).1 fits.request few good) (options_of d unit) (options_good d unit fits)

-- ---- the requested times are among the shifts, so there is an alternative

minute_kept : (p : ℕ → Bool) (a n x : ℕ) → a ≤ x → x < a + n → p x ≡ true → Contains (filter p (range_with_len a n)) x
minute_kept p a zero x le lt is = absurd (omega arith)
minute_kept p a (suc n) x le lt is =
    elim (cases_eq a x) [
      | inl here ↦
          let e : p a ≡ true = ap p here ∙ is in
          rw e (subst (λ (y : ℕ). Contains (y ∷ filter p (range_with_len (a + 1) n)) x) (sym here) (0, omega arith, refl))
      | inr other ↦
          let rest = minute_kept p (a + 1) n x (omega (arith, other)) (omega arith) is in
          elim (cases_Bool (p a)) [
            | inl kept ↦ rw kept (Contains-append_right (a ∷ []) (filter p (range_with_len (a + 1) n)) x rest)
            | inr off ↦ rw off rest
          ]
    ]

requested_kept : (d : Declaration) (nights : ℕ) (stop : Stop) → stop.minute < 1440 → Contains (stop_shifts d nights stop) (1440 * nights + stop.minute)
unfolding date_minutes
requested_kept d nights stop lt =
    let asked = 1440 * nights + stop.minute in
    let zero_is : abs_diff asked asked ≡ 0 = omega arith in
    let rest : abs_diff asked asked % d.step ≡ 0 = ap (λ (k : ℕ). k % d.step) zero_is ∙ zero-mod d.step in
    let is : is_shift d.step d.flex asked asked ≡ true = and_from _ _ (le-leb (abs_diff asked asked) d.flex (omega (arith, zero_is))) (eq-eqb (abs_diff asked asked % d.step) 0 rest) in
    minute_kept (is_shift d.step d.flex asked) (1440 * nights) 1440 asked (omega arith) (omega (arith, lt)) is

-- what a list has at a place, its filter, its image and its pairs have
passing_at : (p : ℕ → Bool) (xs : List ℕ) (x k : ℕ) → k < length xs → get_or xs k x ≡ x → p x ≡ true → Contains (filter p xs) x
passing_at p [] x k lt e is = absurd (omega (arith, lt))
passing_at p (y ∷ xs) x zero lt e is = let here : p y ≡ true = ap p e ∙ is in rw here (0, omega arith, e)
passing_at p (y ∷ xs) x (suc k) lt e is =
    let rest = passing_at p xs x k (omega (arith, lt)) e is in
    elim (cases_Bool (p y)) [
      | inl kept ↦ rw kept (Contains-append_right (y ∷ []) (filter p xs) x rest)
      | inr off ↦ rw off rest
    ]

mapped_at : (f : ℕ → Times) (xs : List ℕ) (x k : ℕ) → k < length xs → get_or xs k x ≡ x → Contains (map f xs) (f x)
mapped_at f [] x k lt e = absurd (omega (arith, lt))
mapped_at f (y ∷ xs) x zero lt e = (0, omega arith, ap f e)
mapped_at f (y ∷ xs) x (suc k) lt e = Contains-append_right (f y ∷ []) (map f xs) (f x) (mapped_at f xs x k (omega (arith, lt)) e)

pair_at : (least : ℕ) (goings : List ℕ) (a g : ℕ) → Contains goings g → a + least ≤ g → Contains (pairs_at least goings a) (At a g)
pair_at least goings a g has le =
    let late : ℕ → Bool = λ (x : ℕ). nat_le (a + least) x in
    let kept : Contains (filter late goings) g = passing_at late goings g has.0 has.1 has.2 (le-leb (a + least) g le) in
    mapped_at (λ (departure : ℕ). At a departure) (filter late goings) g kept.0 kept.1 kept.2

pairs_at_place : (least : ℕ) (comings goings : List ℕ) (a g k : ℕ) → k < length comings → get_or comings k a ≡ a → Contains goings g → a + least ≤ g → Contains (pairs_of least comings goings) (At a g)
pairs_at_place least [] goings a g k lt e has le = absurd (omega (arith, lt))
pairs_at_place least (b ∷ comings) goings a g zero lt e has le =
    Contains-append_left (pairs_at least goings b) (pairs_of least comings goings) (At a g)
    (subst (λ (c : ℕ). Contains (pairs_at least goings c) (At a g)) (sym e) (pair_at least goings a g has le))
pairs_at_place least (b ∷ comings) goings a g (suc k) lt e has le =
    Contains-append_right (pairs_at least goings b) (pairs_of least comings goings) (At a g) (pairs_at_place least comings goings a g k (omega (arith, lt)) e has le)

requested_by : (d : Declaration) (line : Line) (a g : Option Stop) → StopsFit line a g → Contains (shifts_by d line.nights a g) (At (relative_minute 0 a) (relative_minute line.nights g))
requested_by d line None None fits = absurd fits
requested_by d line (Some coming) None fits =
    let has = requested_kept d 0 coming fits.0.minute in
    mapped_at (λ (arrival : ℕ). At arrival 0) (stop_shifts d 0 coming) (1440 * 0 + coming.minute) has.0 has.1 has.2
requested_by d line None (Some going) fits =
    let has = requested_kept d line.nights going fits.0.minute in
    mapped_at (λ (departure : ℕ). At 0 departure) (stop_shifts d line.nights going) (1440 * line.nights + going.minute) has.0 has.1 has.2
requested_by d line (Some coming) (Some going) fits =
    let has = requested_kept d 0 coming fits.0.minute in
    pairs_at_place (least_ground d coming.minute (1440 * line.nights + going.minute)) (stop_shifts d 0 coming) (stop_shifts d line.nights going) (1440 * 0 + coming.minute) (1440 * line.nights + going.minute)
    has.0 has.1 has.2 (requested_kept d line.nights going fits.1.minute) (omega (arith, fits.3))

pub requested_is : (d : Declaration) (line : Line) → LineFits d.season line → Contains (shifts_of d line) (line_times line)
requested_is d line fits = requested_by d line line.arrival line.departure fits.stops

shifts_some : (d : Declaration) (line : Line) (a g : Option Stop) → StopsFit line a g → 1 ≤ length (shifts_by d line.nights a g)
shifts_some d line a g fits = let has = requested_by d line a g fits in omega (arith, has.1)

any_some : (p : Times → Bool) (options : List Times) → list_any p options ≡ true → 1 ≤ length options
any_some p [] is = absurd cc
any_some p (times ∷ options) is = omega arith

with_some : (options : List Times) (times : Times) → 1 ≤ length (with_times options times)
with_some options times =
    elim (cases_Bool (list_any (are_same times) options)) [
      | inl there ↦ rw there (any_some (are_same times) options there)
      | inr missing ↦ rw missing (let long = length-append options (times ∷ []) in omega (arith, long))
    ]

refused_some : (price : Option ℕ) (options : List Times) → 1 ≤ length options → 1 ≤ length (with_refused options price)
refused_some None options some = some
refused_some (Some price) options some = let long = length-append options (Refused ∷ []) in omega (arith, long, some)

group_some : (d : Declaration) (request : Line) (historic : Option Line) (group : Group) → LineFits d.season request → HistoricFits d.season request group historic → 1 ≤ length (options_by d request historic group)
group_some d request historic F fits has = omega arith
group_some d request None R fits has = absurd has
group_some d request (Some historic) R fits has = with_some (filter (lies_between historic request) (shifts_of d request)) (line_times historic)
group_some d request None L fits has = absurd has
group_some d request (Some historic) L fits has = with_some (line_times request ∷ []) (line_times historic)
group_some d request historic B fits has = refused_some d.refuse (shifts_of d request) (shifts_some d request request.arrival request.departure fits.stops)
group_some d request historic N fits has = refused_some d.refuse (shifts_of d request) (shifts_some d request request.arrival request.departure fits.stops)

pub options_some : (d : Declaration) (unit : SlotUnit) → UnitFits d.season unit → 1 ≤ length (options_of d unit)
options_some d unit fits = group_some d unit.request unit.historic unit.group fits.request fits.historic

-- ---- shifts of a line

pub shifts_fit : (d : Declaration) (line : Line) → LineFits d.season line → All (TimesFit None) (shifts_of d line)
shifts_fit d line fits = shifts_good d None line.nights line.arrival line.departure (few_nights line line.arrival line.departure fits.stops)
