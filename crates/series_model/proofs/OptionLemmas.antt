-- Shifts within spans of minutes are the shifts of a line, and those that lie between two lines.
use Rattle.std.proofs.Common.{◌≡◌, ℕ, ◌+◌, ◌-◌, ◌*◌, ◌<◌, ◌≤◌, min, max, Bool, true, false, ◌&&◌, List, [], ◌∷◌, ◌++◌, map, Some, None, refl, sym, ap, subst, ◌∙◌, arith, inl, inr}
use Rattle.std.specs.Prelude.{Option, Result, Ok, Err, OnOk, IsSomeAnd, nat_le, is_some}
use Rattle.std.specs.List.{filter, range_with_len}
use Rattle.std.proofs.lemmas.Bool.{cases_Bool, cases_lt, le-leb, lt-leb, and_left, and_right, and_from}
use Rattle.std.proofs.lemmas.List.Elements.{filter-append}
use Rattle.season_days.specs.declared.declaration.Declaration.{Declaration}
use Rattle.scr_reader.specs.declared.line.Line.{Line}
use Rattle.scr_reader.specs.declared.line.Stop.{Stop}
use Rattle.series_model.specs.declared.times.Times.{Times}
use Rattle.series_model.specs.declared.times.Times.TheVariants.{Refused, At}
use Rattle.series_model.specs.declared.shifts.Span.{Span}
use Rattle.scr_reader.specs.Printed.{StopsFit, LineFits}
use Rattle.series_model.specs.declared.shifts.Shifts.{Shifts}
use Rattle.series_model.specs.declared.shifts.LineShifts.{LineShifts}
use Rattle.series_model.specs.Units.{IsHistoric}
use Rattle.series_model.specs.Options.{relative_minute, arrival_minute, departure_minute, line_times, is_shift, date_minutes, stop_shifts, pairs_at, pairs_of, least_ground, shifts_by, shifts_of, is_between, lies_between, with_times, with_refused, flexible_options}
use Rattle.series_model.specs.Loops.{shifts_from, all_shifts, shifts_in, within_by, shifts_within, line_shifts}
use Rattle.series_model.proofs.RangeLemmas.{filter-range_skip, filter-range_cut, filter-range_same, filter-filter, filter-map, filter-agree, filter-fails}

-- ---- departures some time after an arrival

and_true : (b : Bool) → b && true ≡ b
and_true true = refl
and_true false = refl

and_comm : (a b : Bool) → a && b ≡ b && a
and_comm true true = refl
and_comm true false = refl
and_comm false true = refl
and_comm false false = refl

-- those from a minute on
pub late_range : (p : ℕ → Bool) (low end least : ℕ) → filter (λ x. nat_le least x) (filter p (range_with_len low (end - low))) ≡ filter p (range_with_len (max low least) (end - max low least))
late_range p low end least =
    let q : ℕ → Bool = λ (x : ℕ). p x && nat_le least x in
    let both : filter (λ x. nat_le least x) (filter p (range_with_len low (end - low))) ≡ filter q (range_with_len low (end - low)) = filter-filter (λ x. nat_le least x) p (range_with_len low (end - low)) in
    both
    ∙ elim (cases_lt low least) [
      | inr from ↦
          let e : max low least ≡ low = omega arith in
          rw e (filter-range_same q p low (end - low) (λ x l k. ap (λ (b : Bool). p x && b) (le-leb least x (omega arith)) ∙ and_true (p x)))
      | inl below ↦
          let e : max low least ≡ least = omega arith in
          rw e (from_least p low end least below)
    ]
  where
    fails : (p : ℕ → Bool) (least x : ℕ) → x < least → p x && nat_le least x ≡ false
    fails p least x lt = and_right (p x) (nat_le least x) (lt-leb least x lt)

    holds : (p : ℕ → Bool) (least x : ℕ) → least ≤ x → p x && nat_le least x ≡ p x
    holds p least x le = ap (λ (b : Bool). p x && b) (le-leb least x le) ∙ and_true (p x)

    from_least : (p : ℕ → Bool) (low end least : ℕ) → low < least → filter (λ x. p x && nat_le least x) (range_with_len low (end - low)) ≡ filter p (range_with_len least (end - least))
    from_least p low end least below =
        elim (cases_lt end least) [
          | inl none ↦
              let a : end - least ≡ 0 = omega arith in
              let skipped = filter-range_skip (λ x. p x && nat_le least x) low (end - low) (end - low) (omega arith) (λ x l k. fails p least x (omega arith)) in
              let z : end - low - (end - low) ≡ 0 = omega arith in
              rw a (rw z at skipped)
          | inr some ↦
              let skipped = filter-range_skip (λ x. p x && nat_le least x) low (least - low) (end - low) (omega arith) (λ x l k. fails p least x (omega arith)) in
              let a : low + (least - low) ≡ least = omega arith in
              let b : end - low - (least - low) ≡ end - least = omega arith in
              let there : filter (λ x. p x && nat_le least x) (range_with_len low (end - low)) ≡ filter (λ x. p x && nat_le least x) (range_with_len least (end - least)) = rw (a, b) at skipped in
              there ∙ filter-range_same (λ x. p x && nat_le least x) p least (end - least) (λ x l k. holds p least x l)
        ]

-- ---- a whole date

pub date_shifts : (d : Declaration) (nights requested : ℕ) (span : Span) → span.low ≡ 1440 * nights → span.high ≡ 1440 * nights + 1439
    → all_shifts (shifts_in d requested span) ≡ filter (is_shift d.step d.flex requested) (date_minutes nights)
unfolding date_minutes
date_shifts d nights requested span low high =
    let n : span.high + 1 - span.low ≡ 1440 = omega (arith, low, high) in
    ap (λ (k : ℕ). filter (is_shift d.step d.flex requested) (range_with_len span.low k)) n ∙ ap (λ (k : ℕ). filter (is_shift d.step d.flex requested) (range_with_len k 1440)) low

arrival_shifts : (d : Declaration) (stop : Stop) (span : Span) → span.low ≡ 0 → span.high ≡ 1439 → all_shifts (shifts_in d stop.minute span) ≡ stop_shifts d 0 stop
arrival_shifts d stop span low high =
    let m : stop.minute ≡ 1440 * 0 + stop.minute = omega arith in
    date_shifts d 0 stop.minute span (omega (arith, low)) (omega (arith, high)) ∙ ap (λ (k : ℕ). filter (is_shift d.step d.flex k) (date_minutes 0)) m

-- ---- between two minutes of which one is on the date

before_both : (one other x : ℕ) → x < min one other → is_between one other x ≡ false
before_both one other x lt = and_left (nat_le (min one other) x) (nat_le x (max one other)) (lt-leb (min one other) x lt)

after_both : (one other x : ℕ) → max one other < x → is_between one other x ≡ false
after_both one other x lt = and_right (nat_le (min one other) x) (nat_le x (max one other)) (lt-leb x (max one other) lt)

in_between : (one other x : ℕ) → min one other ≤ x → x ≤ max one other → is_between one other x ≡ true
in_between one other x le ge = and_from (nat_le (min one other) x) (nat_le x (max one other)) (le-leb (min one other) x le) (le-leb x (max one other) ge)

between_range : (p : ℕ → Bool) (base count one other low high : ℕ) → count ≡ 1440 → low ≡ max base (min one other) → high ≡ min (base + 1439) (max one other) → base ≤ other → other ≤ base + 1439
    → filter (is_between one other) (filter p (range_with_len base count)) ≡ filter p (range_with_len low (high + 1 - low))
between_range p base count one other low high count_is low_is high_is from to =
    let q : ℕ → Bool = λ (x : ℕ). p x && is_between one other x in
    let both : filter (is_between one other) (filter p (range_with_len base count)) ≡ filter q (range_with_len base count) = filter-filter (is_between one other) p (range_with_len base count) in
    let skipped = filter-range_skip q base (low - base) count (omega (arith, count_is, low_is, from, to)) (λ x l k. and_right (p x) (is_between one other x) (before_both one other x (omega (arith, low_is, l, k)))) in
    let a : base + (low - base) ≡ low = omega (arith, low_is) in
    let cut = filter-range_cut q low (high + 1 - low) (count - (low - base)) (omega (arith, count_is, low_is, high_is, from, to)) (λ x l k. and_right (p x) (is_between one other x) (after_both one other x (omega (arith, count_is, low_is, high_is, from, to, l, k)))) in
    let start : filter q (range_with_len base count) ≡ filter q (range_with_len low (count - (low - base))) = rw a at skipped in
    let same = filter-range_same q p low (high + 1 - low) (λ x l k. ap (λ (b : Bool). p x && b) (in_between one other x (omega (arith, low_is, l)) (omega (arith, high_is, l, k))) ∙ and_true (p x)) in
    both ∙ start ∙ cut ∙ same

-- the shifts of a movement between two minutes
pub between_shifts : (d : Declaration) (nights one requested : ℕ) (span : Span) → span.low ≡ max (1440 * nights) (min one requested) → span.high ≡ min (1440 * nights + 1439) (max one requested) → 1440 * nights ≤ requested → requested ≤ 1440 * nights + 1439
    → all_shifts (shifts_in d requested span) ≡ filter (is_between one requested) (filter (is_shift d.step d.flex requested) (date_minutes nights))
unfolding date_minutes
between_shifts d nights one requested span low high from to =
    sym (between_range (is_shift d.step d.flex requested) (1440 * nights) 1440 one requested span.low span.high refl low high from to)

-- ---- the times of a line

pub whole_line : (d : Declaration) (nights : ℕ) (coming_in going_in : Span) (a g : Option Stop)
    → coming_in.low ≡ 0 → coming_in.high ≡ 1439 → going_in.low ≡ 1440 * nights → going_in.high ≡ 1440 * nights + 1439
    → within_by d nights coming_in going_in a g ≡ shifts_by d nights a g
whole_line d nights coming_in going_in None None a b c e = refl
whole_line d nights coming_in going_in (Some coming) None a b c e = ap (λ (xs : List ℕ). map (λ arrival. At arrival 0) xs) (arrival_shifts d coming coming_in a b)
whole_line d nights coming_in going_in None (Some going) a b c e = ap (λ (xs : List ℕ). map (λ departure. At 0 departure) xs) (date_shifts d nights (1440 * nights + going.minute) going_in c e)
whole_line d nights coming_in going_in (Some coming) (Some going) a b c e =
    let arrivals = arrival_shifts d coming coming_in a b in
    let departures = date_shifts d nights (1440 * nights + going.minute) going_in c e in
    let least = least_ground d coming.minute (1440 * nights + going.minute) in
    ap (λ (xs : List ℕ). pairs_of least xs (all_shifts (shifts_in d (1440 * nights + going.minute) going_in))) arrivals ∙ ap (λ (xs : List ℕ). pairs_of least (stop_shifts d 0 coming) xs) departures

-- pairs of which each movement passes a test
pairs_at-filter : (t : Times → Bool) (ta td : ℕ → Bool) (least a : ℕ) (ds : List ℕ) → ((x y : ℕ) → t (At x y) ≡ ta x && td y) → ta a ≡ true → filter t (pairs_at least ds a) ≡ pairs_at least (filter td ds) a
pairs_at-filter t ta td least a ds same passes =
    let late : ℕ → Bool = λ (y : ℕ). nat_le (a + least) y in
    let here : (y : ℕ) → t (At a y) ≡ td y = λ y. same a y ∙ ap (λ (b : Bool). b && td y) passes in
    let mapped = filter-map t (λ (y : ℕ). At a y) (filter late ds) in
    let tests : filter (λ (y : ℕ). t (At a y)) (filter late ds) ≡ filter td (filter late ds) = filter-agree (λ (y : ℕ). t (At a y)) td (filter late ds) here in
    let swapped : filter td (filter late ds) ≡ filter late (filter td ds) = filter-filter td late ds ∙ filter-agree (λ (y : ℕ). late y && td y) (λ (y : ℕ). td y && late y) ds (λ y. and_comm (late y) (td y)) ∙ sym (filter-filter late td ds) in
    mapped ∙ ap (λ (ys : List ℕ). map (λ (y : ℕ). At a y) ys) (tests ∙ swapped)

pairs_at-none : (t : Times → Bool) (ta td : ℕ → Bool) (least a : ℕ) (ds : List ℕ) → ((x y : ℕ) → t (At x y) ≡ ta x && td y) → ta a ≡ false → filter t (pairs_at least ds a) ≡ []
pairs_at-none t ta td least a ds same fails =
    let late : ℕ → Bool = λ (y : ℕ). nat_le (a + least) y in
    let none : (y : ℕ) → t (At a y) ≡ false = λ y. same a y ∙ ap (λ (b : Bool). b && td y) fails in
    filter-map t (λ (y : ℕ). At a y) (filter late ds) ∙ ap (λ (ys : List ℕ). map (λ (y : ℕ). At a y) ys) (filter-fails (λ (y : ℕ). t (At a y)) (filter late ds) none)

pub pairs-filter : (t : Times → Bool) (ta td : ℕ → Bool) (least : ℕ) (comings ds : List ℕ) → ((x y : ℕ) → t (At x y) ≡ ta x && td y) → filter t (pairs_of least comings ds) ≡ pairs_of least (filter ta comings) (filter td ds)
pairs-filter t ta td least [] ds same = refl
pairs-filter t ta td least (a ∷ comings) ds same =
    let rest = pairs-filter t ta td least comings ds same in
    let split = filter-append t (pairs_at least ds a) (pairs_of least comings ds) in
    elim (cases_Bool (ta a)) [
      | inl passes ↦
          rw passes (split ∙ ap (λ xs. xs ++ filter t (pairs_of least comings ds)) (pairs_at-filter t ta td least a ds same passes) ∙ ap (λ xs. pairs_at least (filter td ds) a ++ xs) rest)
      | inr fails ↦
          rw fails (split ∙ ap (λ xs. xs ++ filter t (pairs_of least comings ds)) (pairs_at-none t ta td least a ds same fails) ∙ rest)
    ]

-- the shifts of a line of which each movement passes a test
pub some_line : (d : Declaration) (nights : ℕ) (coming_in going_in : Span) (t : Times → Bool) (ta td : ℕ → Bool) (a g : Option Stop)
    → ((x y : ℕ) → t (At x y) ≡ ta x && td y)
    → (a ≡ None → ta 0 ≡ true) → (g ≡ None → td 0 ≡ true)
    → ((stop : Stop) → a ≡ Some stop → all_shifts (shifts_in d stop.minute coming_in) ≡ filter ta (stop_shifts d 0 stop))
    → ((stop : Stop) → g ≡ Some stop → all_shifts (shifts_in d (1440 * nights + stop.minute) going_in) ≡ filter td (stop_shifts d nights stop))
    → within_by d nights coming_in going_in a g ≡ filter t (shifts_by d nights a g)
some_line d nights coming_in going_in t ta td None None same no_a no_g is_a is_g = refl
some_line d nights coming_in going_in t ta td (Some coming) None same no_a no_g is_a is_g =
    let both : (x : ℕ) → ta x ≡ t (At x 0) = λ x. sym (same x 0 ∙ ap (λ (b : Bool). ta x && b) (no_g refl) ∙ and_true (ta x)) in
    let xs = stop_shifts d 0 coming in
    ap (λ (ys : List ℕ). map (λ arrival. At arrival 0) ys) (is_a coming refl ∙ filter-agree ta (λ (x : ℕ). t (At x 0)) xs both) ∙ sym (filter-map t (λ (x : ℕ). At x 0) xs)
some_line d nights coming_in going_in t ta td None (Some going) same no_a no_g is_a is_g =
    let both : (y : ℕ) → td y ≡ t (At 0 y) = λ y. sym (same 0 y ∙ ap (λ (b : Bool). b && td y) (no_a refl)) in
    let ys = stop_shifts d nights going in
    ap (λ (xs : List ℕ). map (λ departure. At 0 departure) xs) (is_g going refl ∙ filter-agree td (λ (y : ℕ). t (At 0 y)) ys both) ∙ sym (filter-map t (λ (y : ℕ). At 0 y) ys)
some_line d nights coming_in going_in t ta td (Some coming) (Some going) same no_a no_g is_a is_g =
    let least = least_ground d coming.minute (1440 * nights + going.minute) in
    ap (λ (xs : List ℕ). pairs_of least xs (all_shifts (shifts_in d (1440 * nights + going.minute) going_in))) (is_a coming refl)
    ∙ ap (λ (xs : List ℕ). pairs_of least (filter ta (stop_shifts d 0 coming)) xs) (is_g going refl)
    ∙ sym (pairs-filter t ta td least (stop_shifts d 0 coming) (stop_shifts d nights going) same)

-- ---- what the loops need

pub on_ok : {X E : Type 0} (r : Result X E) (P Q : Type 0) → (P → Q) → OnOk r P → OnOk r Q
on_ok (Ok x) P Q f has = f has
on_ok (Err e) P Q f has = tt

-- the departures that are late enough
pub late_pairs : (s : Shifts) (arrival least first : ℕ) → first ≡ max s.low (arrival + least) → map (λ departure. At arrival departure) (shifts_from s first) ≡ pairs_at least (all_shifts s) arrival
late_pairs s arrival least first is =
    let late = late_range (is_shift s.step s.flex s.requested) s.low (s.high + 1) (arrival + least) in
    ap (λ (k : ℕ). map (λ departure. At arrival departure) (shifts_from s k)) is ∙ ap (λ (xs : List ℕ). map (λ departure. At arrival departure) xs) (sym late)

-- a turnaround's pairs
pub pairs_line : (d : Declaration) (line : Line) (coming_in going_in : Span) (coming going : Stop) (arrivals departures : Shifts) (minute requested least : ℕ)
    → line.arrival ≡ Some coming → line.departure ≡ Some going → minute ≡ coming.minute → arrivals ≡ shifts_in d minute coming_in → requested ≡ 1440 * line.nights + going.minute → departures ≡ shifts_in d requested going_in
    → least ≡ min d.ground (requested - arrivals.requested) → pairs_of least (all_shifts arrivals) (all_shifts departures) ≡ shifts_within d line coming_in going_in
pairs_line d line coming_in going_in coming going arrivals departures minute requested least is_a is_g minute_is arrivals_is requested_is departures_is least_is =
    rw (is_a, is_g, least_is, arrivals_is, departures_is, minute_is, requested_is) refl

-- ---- new requests

pub refused_made : (price : Option ℕ) (options : List Times) → is_some price ≡ true → options ++ Refused ∷ [] ≡ with_refused options price
refused_made None options is = absurd cc
refused_made (Some price) options is = refl

pub refused_none : (price : Option ℕ) (options : List Times) → is_some price ≡ false → options ≡ with_refused options price
refused_none None options is = refl
refused_none (Some price) options is = absurd cc

-- ---- between historic and requested times

missing : (o p : Option Stop) → is_some o ≡ is_some p → p ≡ None → o ≡ None
missing None p same none = refl
missing (Some stop) p same none = absurd (let no : true ≡ false = same ∙ ap (λ (q : Option Stop). is_some q) none in cc)

coming_minute : (line : Line) (a g : Option Stop) (stop : Stop) → StopsFit line a g → a ≡ Some stop → stop.minute < 1440
coming_minute line None g stop fits is = absurd cc
coming_minute line (Some coming) None stop fits is = let same : coming ≡ stop = cc in subst (λ (s : Stop). s.minute < 1440) same fits.0.minute
coming_minute line (Some coming) (Some going) stop fits is = let same : coming ≡ stop = cc in subst (λ (s : Stop). s.minute < 1440) same fits.0.minute

going_minute : (line : Line) (a g : Option Stop) (stop : Stop) → StopsFit line a g → g ≡ Some stop → stop.minute < 1440
going_minute line a None stop fits is = absurd cc
going_minute line None (Some going) stop fits is = let same : going ≡ stop = cc in subst (λ (s : Stop). s.minute < 1440) same fits.0.minute
going_minute line (Some coming) (Some going) stop fits is = let same : going ≡ stop = cc in subst (λ (s : Stop). s.minute < 1440) same fits.1.minute

pub between_line : (d : Declaration) (request historic : Line) (coming_in going_in : Span) → LineFits d.season request → IsHistoric d.season request historic
    → coming_in.low ≡ max 0 (min (arrival_minute historic) (arrival_minute request)) → coming_in.high ≡ min 1439 (max (arrival_minute historic) (arrival_minute request))
    → going_in.low ≡ max (1440 * request.nights) (min (departure_minute historic) (departure_minute request)) → going_in.high ≡ min (1440 * request.nights + 1439) (max (departure_minute historic) (departure_minute request))
    → shifts_within d request coming_in going_in ≡ filter (lies_between historic request) (shifts_of d request)
between_line d request historic coming_in going_in fits is a b c e =
    let ha = arrival_minute historic in
    let ra = arrival_minute request in
    let hd = departure_minute historic in
    let rd = departure_minute request in
    some_line d request.nights coming_in going_in (lies_between historic request) (is_between ha ra) (is_between hd rd) request.arrival request.departure
    (λ x y. refl)
    (λ none. let h : ha ≡ 0 = ap (relative_minute 0) (missing historic.arrival request.arrival is.arrivals none) in let r : ra ≡ 0 = ap (relative_minute 0) none in in_between ha ra 0 (omega (arith, h, r)) (omega (arith, h, r)))
    (λ none. let h : hd ≡ 0 = ap (relative_minute historic.nights) (missing historic.departure request.departure is.departures none) in let r : rd ≡ 0 = ap (relative_minute request.nights) none in in_between hd rd 0 (omega (arith, h, r)) (omega (arith, h, r)))
    (λ stop some.
    let few = coming_minute request request.arrival request.departure stop fits.stops some in
    let r : ra ≡ 1440 * 0 + stop.minute = ap (relative_minute 0) some in
    let m : 1440 * 0 + stop.minute ≡ stop.minute = omega arith in
    let asked : ra ≡ stop.minute = r ∙ m in
    let found = between_shifts d 0 ha stop.minute coming_in (omega (arith, a, asked)) (omega (arith, b, asked)) (omega arith) (omega (arith, few)) in
    found ∙ ap (λ (k : ℕ). filter (is_between ha k) (filter (is_shift d.step d.flex stop.minute) (date_minutes 0))) (sym asked)
    ∙ ap (λ (k : ℕ). filter (is_between ha ra) (filter (is_shift d.step d.flex k) (date_minutes 0))) (sym m))
    (λ stop some.
    let few = going_minute request request.arrival request.departure stop fits.stops some in
    let asked : rd ≡ 1440 * request.nights + stop.minute = ap (relative_minute request.nights) some in
    let found = between_shifts d request.nights hd (1440 * request.nights + stop.minute) going_in (omega (arith, c, asked)) (omega (arith, e, asked)) (omega arith) (omega (arith, few)) in
    found ∙ ap (λ (k : ℕ). filter (is_between hd k) (filter (is_shift d.step d.flex (1440 * request.nights + stop.minute)) (date_minutes request.nights))) (sym asked))

pub flexible_by : (d : Declaration) (request historic : Line) (given : Option Line) → given ≡ Some historic → IsSomeAnd given (IsHistoric d.season request) → IsHistoric d.season request historic
flexible_by d request historic None is has = absurd has
flexible_by d request historic (Some line) is has = let same : line ≡ historic = cc in subst (IsHistoric d.season request) same has

pub flexible_made : (d : Declaration) (request historic : Line) (given : Option Line) (between : LineShifts) (start shifts : List Times) (times : Times)
    → given ≡ Some historic → start ≡ [] → shifts ≡ start ++ line_shifts between → line_shifts between ≡ filter (lies_between historic request) (shifts_of d request) → times ≡ line_times historic
    → with_times shifts times ≡ flexible_options d request given
flexible_made d request historic given between start shifts times is empty pushed same times_is =
    let all : shifts ≡ filter (lies_between historic request) (shifts_of d request) = pushed ∙ ap (λ (xs : List Times). xs ++ line_shifts between) empty ∙ same in
    rw is (ap (λ (xs : List Times). with_times xs times) all ∙ ap (λ (t : Times). with_times (filter (lies_between historic request) (shifts_of d request)) t) times_is)
