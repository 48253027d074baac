-- What is read has a printed spelling.
use Rattle.std.proofs.Common.{◌≡◌, ℕ, ◌+◌, ◌-◌, ◌*◌, ◌<◌, ◌≤◌, true, List, [], ◌∷◌, length, Some, None, refl, arith, inl, inr}
use Rattle.std.specs.Prelude.{Option, IsSomeAnd, slice_get}
use Rattle.std.proofs.lemmas.Bool.{and_parts}
use Rattle.std.proofs.lemmas.Bool.Decides.{nat_tests}
use Rattle.std.proofs.Math.Bool.{◌&&◌}
use Rattle.season_days.specs.Term.{Term}
use Rattle.season_days.specs.Seasons.{date_count}
use Rattle.scr_reader.specs.declared.line.Line.{Line}
use Rattle.scr_reader.specs.declared.line.Stop.{Stop}
use Rattle.scr_reader.specs.declared.line.Code.{Code}
use Rattle.scr_reader.specs.declared.line.Flight.{Flight}
use Rattle.scr_reader.specs.Bytes.{is_digit}
use Rattle.scr_reader.specs.Parts.{are_digits, flight_number_of, IsFlight, IsPeriod, IsArrivalGroup, IsDepartureGroup, IsNights}
use Rattle.scr_reader.specs.Shapes.{Shape, arrival, departure, turnaround, parts_of, shape_of, code_and_flight, departing_flight, dates, weekdays, seats_and_craft, arrival_group, departure_group, departure_group_with_nights, arrival_service, departure_service, both_services, IsLine, IsCodeAndFlight, IsService, IsBothServices, IsLaterGroup}
use Rattle.scr_reader.specs.Rows.{entry, line_fields, IsRow}
use Rattle.scr_reader.specs.Printed.{FlightFits, StopFits, StopsFit, LineFits}
use Rattle.scr_reader.proofs.AgreeLemmas.{said_in, shape_said}
use Rattle.scr_reader.proofs.SameLemmas.{some_stop, with_stop, with_stops}

-- the text that is there
some_text : {P : List ℕ → Type 0} (o : Option (List ℕ)) → IsSomeAnd o P → (t : List ℕ) × P t
some_text None has = absurd has
some_text (Some t) has = (t, has)

digit_few : (b : ℕ) → is_digit b ≡ true → b - 48 ≤ 9
digit_few b is = grind (arith, nat_tests, is)

number_small : (digits : List ℕ) → are_digits digits ≡ true → length digits ≤ 4 → flight_number_of digits < 10000
number_small [] are few = omega arith
number_small (a ∷ []) are few = omega (arith, digit_few a (and_parts (is_digit a) true are).0)
number_small (a ∷ b ∷ []) are few =
    let p = and_parts (is_digit a) (is_digit b && true) are in
    omega (arith, digit_few a p.0, digit_few b (and_parts (is_digit b) true p.1).0)
number_small (a ∷ b ∷ c ∷ []) are few =
    let p = and_parts (is_digit a) (is_digit b && (is_digit c && true)) are in
    let q = and_parts (is_digit b) (is_digit c && true) p.1 in
    omega (arith, digit_few a p.0, digit_few b q.0, digit_few c (and_parts (is_digit c) true q.1).0)
number_small (a ∷ b ∷ c ∷ d ∷ []) are few =
    let p = and_parts (is_digit a) (is_digit b && (is_digit c && (is_digit d && true))) are in
    let q = and_parts (is_digit b) (is_digit c && (is_digit d && true)) p.1 in
    let r = and_parts (is_digit c) (is_digit d && true) q.1 in
    omega (arith, digit_few a p.0, digit_few b q.0, digit_few c r.0, digit_few d (and_parts (is_digit d) true r.1).0)
number_small (a ∷ b ∷ c ∷ d ∷ e ∷ digits) are few = absurd (omega (arith, few))

pub flight_fits : (text : List ℕ) (flight : Flight) → IsFlight text flight → FlightFits flight
flight_fits text flight is =
    let small = number_small is.digits is.number.digits is.number.most in
    record { airline = is.airline; number = omega (arith, small, is.number.named); suffix = is.suffix }

flight_behind : (text : List ℕ) (code : Code) (flight : Flight) → IsCodeAndFlight text code flight → FlightFits flight
flight_behind [] code flight is = absurd is
flight_behind (b ∷ text) code flight is = flight_fits text flight is.1

day_within : (season : Term) (text : List ℕ) (first last : ℕ) → IsPeriod season text first last → (first < date_count season) × (last < date_count season)
day_within season text first last is =
    elim (is.dates) as (λ _. (first < date_count season) × (last < date_count season)) [
      | inl two ↦ (two.first_day.2.2, two.last_day.2.2)
      | inr one ↦ (one.0.2.2, rw one.1 one.0.2.2)
    ]

nights_few : (text : List ℕ) (nights : ℕ) → IsNights text nights → nights < 10
nights_few text nights (inl none) = omega (arith, none.1)
nights_few text nights (inr one) = one.0

arrives : (line : Line) (a d : Option Stop) (stop : Stop) → a ≡ Some stop → d ≡ None → StopFits stop → line.nights ≡ 0 → StopsFit line a d
arrives line a d stop is none fits nights = rw (is, none) (fits, nights)

leaves : (line : Line) (a d : Option Stop) (stop : Stop) → a ≡ None → d ≡ Some stop → StopFits stop → line.nights ≡ 0 → StopsFit line a d
leaves line a d stop none is fits nights = rw (none, is) (fits, nights)

turns : (line : Line) (a d : Option Stop) (coming going : Stop) → a ≡ Some coming → d ≡ Some going → StopFits coming → StopFits going → line.nights < 10 → coming.minute ≤ 1440 * line.nights + going.minute → StopsFit line a d
turns line a d coming going is also arriving leaving nights later = rw (is, also) (arriving, leaving, nights, later)

pub arrival_fits : (season : Term) (fields : List (List ℕ)) (line : Line) → shape_of fields ≡ arrival → IsLine season fields line → LineFits season line
arrival_fits season fields line shape whole =
    let both = shape_said season fields arrival line shape whole in
    let agree = both.1 in
    let coming = some_stop line.arrival both.0.0 in
    let f1 = some_text (slice_get fields 0) (with_stop (slice_get fields 0) line.arrival coming.0 (λ text x. IsCodeAndFlight text line.code x.flight) coming.1 (said_in season line code_and_flight 0 6 (parts_of arrival) fields (omega arith) refl agree)) in
    let g1 = some_text (slice_get fields 4) (with_stop (slice_get fields 4) line.arrival coming.0 (λ text x. IsArrivalGroup text x.near x.far x.minute) coming.1 (said_in season line arrival_group 4 6 (parts_of arrival) fields (omega arith) refl agree)) in
    let v = some_text (slice_get fields 5) (with_stop (slice_get fields 5) line.arrival coming.0 (λ text x. IsService text x) coming.1 (said_in season line arrival_service 5 6 (parts_of arrival) fields (omega arith) refl agree)) in
    let period = some_text (slice_get fields 1) (said_in season line dates 1 6 (parts_of arrival) fields (omega arith) refl agree) in
    let days = some_text (slice_get fields 2) (said_in season line weekdays 2 6 (parts_of arrival) fields (omega arith) refl agree) in
    let seats = some_text (slice_get fields 3) (said_in season line seats_and_craft 3 6 (parts_of arrival) fields (omega arith) refl agree) in
    let within = day_within season period.0 line.period.first.0 line.period.last.0 period.1 in
    let arriving : StopFits coming.0 = record { flight = flight_behind f1.0 line.code coming.0.flight f1.1; minute = g1.1.time; stations = g1.1.stations; service = v.1.0 } in
    record { stops = arrives line line.arrival line.departure coming.0 coming.1 both.0.1 arriving both.0.2; first = within.0; last = within.1; ordered = period.1.ordered; week = days.1.0.week; dated = days.1.1; seats = seats.1.few; craft = seats.1.kind }

pub departure_fits : (season : Term) (fields : List (List ℕ)) (line : Line) → shape_of fields ≡ departure → IsLine season fields line → LineFits season line
departure_fits season fields line shape whole =
    let both = shape_said season fields departure line shape whole in
    let agree = both.1 in
    let going = some_stop line.departure both.0.1 in
    let f2 = some_text (slice_get fields 1) (with_stop (slice_get fields 1) line.departure going.0 (λ text x. IsFlight text x.flight) going.1 (said_in season line departing_flight 1 7 (parts_of departure) fields (omega arith) refl agree)) in
    let g2 = some_text (slice_get fields 5) (with_stop (slice_get fields 5) line.departure going.0 (λ text x. IsDepartureGroup text [] x.near x.far x.minute) going.1 (said_in season line departure_group 5 7 (parts_of departure) fields (omega arith) refl agree)) in
    let v = some_text (slice_get fields 6) (with_stop (slice_get fields 6) line.departure going.0 (λ text x. IsService text x) going.1 (said_in season line departure_service 6 7 (parts_of departure) fields (omega arith) refl agree)) in
    let period = some_text (slice_get fields 2) (said_in season line dates 2 7 (parts_of departure) fields (omega arith) refl agree) in
    let days = some_text (slice_get fields 3) (said_in season line weekdays 3 7 (parts_of departure) fields (omega arith) refl agree) in
    let seats = some_text (slice_get fields 4) (said_in season line seats_and_craft 4 7 (parts_of departure) fields (omega arith) refl agree) in
    let within = day_within season period.0 line.period.first.0 line.period.last.0 period.1 in
    let leaving : StopFits going.0 = record { flight = flight_fits f2.0 going.0.flight f2.1; minute = g2.1.time; stations = g2.1.stations; service = v.1.0 } in
    record { stops = leaves line line.arrival line.departure going.0 both.0.0 going.1 leaving both.0.2; first = within.0; last = within.1; ordered = period.1.ordered; week = days.1.0.week; dated = days.1.1; seats = seats.1.few; craft = seats.1.kind }

pub turnaround_fits : (season : Term) (fields : List (List ℕ)) (line : Line) → shape_of fields ≡ turnaround → IsLine season fields line → LineFits season line
turnaround_fits season fields line shape whole =
    let both = shape_said season fields turnaround line shape whole in
    let agree = both.1 in
    let coming = some_stop line.arrival both.0.0 in
    let going = some_stop line.departure both.0.1 in
    let f1 = some_text (slice_get fields 0) (with_stop (slice_get fields 0) line.arrival coming.0 (λ text x. IsCodeAndFlight text line.code x.flight) coming.1 (said_in season line code_and_flight 0 8 (parts_of turnaround) fields (omega arith) refl agree)) in
    let f2 = some_text (slice_get fields 1) (with_stop (slice_get fields 1) line.departure going.0 (λ text x. IsFlight text x.flight) going.1 (said_in season line departing_flight 1 8 (parts_of turnaround) fields (omega arith) refl agree)) in
    let g1 = some_text (slice_get fields 5) (with_stop (slice_get fields 5) line.arrival coming.0 (λ text x. IsArrivalGroup text x.near x.far x.minute) coming.1 (said_in season line arrival_group 5 8 (parts_of turnaround) fields (omega arith) refl agree)) in
    let g2 = some_text (slice_get fields 6) (with_stops (slice_get fields 6) line.arrival line.departure coming.0 going.0 (λ text x y. IsLaterGroup text x.minute y.near y.far y.minute line.nights) coming.1 going.1 (said_in season line departure_group_with_nights 6 8 (parts_of turnaround) fields (omega arith) refl agree)) in
    let v = some_text (slice_get fields 7) (with_stops (slice_get fields 7) line.arrival line.departure coming.0 going.0 (λ text x y. IsBothServices text x y) coming.1 going.1 (said_in season line both_services 7 8 (parts_of turnaround) fields (omega arith) refl agree)) in
    let period = some_text (slice_get fields 2) (said_in season line dates 2 8 (parts_of turnaround) fields (omega arith) refl agree) in
    let days = some_text (slice_get fields 3) (said_in season line weekdays 3 8 (parts_of turnaround) fields (omega arith) refl agree) in
    let seats = some_text (slice_get fields 4) (said_in season line seats_and_craft 4 8 (parts_of turnaround) fields (omega arith) refl agree) in
    let within = day_within season period.0 line.period.first.0 line.period.last.0 period.1 in
    let arriving : StopFits coming.0 = record { flight = flight_behind f1.0 line.code coming.0.flight f1.1; minute = g1.1.time; stations = g1.1.stations; service = v.1.0 } in
    let leaving : StopFits going.0 = record { flight = flight_fits f2.0 going.0.flight f2.1; minute = g2.1.group.time; stations = g2.1.group.stations; service = v.1.1 } in
    let nights : line.nights < 10 = nights_few g2.1.nights_text line.nights g2.1.nights_said in
    record { stops = turns line line.arrival line.departure coming.0 going.0 coming.1 going.1 arriving leaving nights g2.1.later; first = within.0; last = within.1; ordered = period.1.ordered; week = days.1.0.week; dated = days.1.1; seats = seats.1.few; craft = seats.1.kind }

shape_fits : (season : Term) (fields : List (List ℕ)) (line : Line) (shape : Shape) → shape_of fields ≡ shape → IsLine season fields line → LineFits season line
shape_fits season fields line arrival is whole = arrival_fits season fields line is whole
shape_fits season fields line departure is whole = departure_fits season fields line is whole
shape_fits season fields line turnaround is whole = turnaround_fits season fields line is whole

pub read_fits : (season : Term) (text : List ℕ) (line : Line) → IsRow season text (entry line) → LineFits season line
read_fits season text line is = shape_fits season (line_fields text) line (shape_of (line_fields text)) refl is.1
