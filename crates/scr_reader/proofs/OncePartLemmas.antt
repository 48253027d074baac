-- A field says one value of its kind.
use Rattle.std.proofs.Common.{◌≡◌, ℕ, suc, zero, ◌+◌, ◌/◌, ◌%◌, ◌<◌, ◌≤◌, Bool, true, cond, eqb, List, [], ◌∷◌, ◌++◌, length, length-append, get_or, take, drop, Option, Some, None, refl, sym, ap, ◌∙◌, arith, inl, inr}
use Rattle.std.specs.Prelude.{if◌then◌else◌}
use Rattle.std.proofs.Math.Bool.{◌&&◌}
use Rattle.std.proofs.lemmas.Bool.{and_parts, cases_eq, eqb-true}
use Rattle.std.proofs.lemmas.List.{take_at, drop_at}
use Rattle.std.proofs.lemmas.Option.{same_Some}
use Rattle.std.proofs.lemmas.Int.{ints}
use Rattle.schedule_text.specs.Days.{IsDays}
use Rattle.schedule_text.specs.Times.{two_digits, time_text}
use Rattle.season_days.specs.Term.{Term}
use Rattle.season_days.specs.Seasons.{season_text, half_letter}
use Rattle.season_days.specs.declared.season.Half.{Half}
use Rattle.season_days.specs.declared.season.Half.TheVariants.{Summer, Winter}
use Rattle.slot_text.specs.Stations.{IsStation}
use Rattle.slot_text.specs.declared.station.Station.{Station}
use Rattle.scr_reader.specs.declared.line.Code.{Code}
use Rattle.scr_reader.specs.declared.line.Flight.{Flight}
use Rattle.scr_reader.specs.Bytes.{is_letter, three_digits}
use Rattle.scr_reader.specs.Parts.{flight_number_of, suffix_text, IsFlight, month_text, date_text, SpellsDay, IsPeriod, IsSeats, StationsFit, stations_text, IsArrivalGroup, IsNights, IsDepartureGroup}
use Rattle.scr_reader.specs.Shapes.{IsCodeAlone, IsCodeAndFlight, IsLaterGroup}
use Rattle.scr_reader.specs.Private.FieldForms.{leading_nights, after_nights}
use Rattle.scr_reader.proofs.PartLemmas.{by_airline, same_number, no_letter_last}
use Rattle.scr_reader.proofs.CleanLemmas.{stations_long}
use Rattle.scr_reader.proofs.DayLemmas.{in_range, by_five, by_ten, five_or_ten, halves}
use Rattle.scr_reader.proofs.NightLemmas.{nights_again}

-- a text names one time of the day, and one set of weekdays
abbrev pub OneTime : Type 0
OneTime = (a b : ℕ) → a < 1440 → b < 1440 → time_text a ≡ time_text b → a ≡ b

abbrev pub OneSet : Type 0
OneSet = (text : List ℕ) (a b : ℕ) → IsDays text a → IsDays text b → a ≡ b

-- texts of the same length that follow each other come apart in one way
split_same : (a b c d : List ℕ) (n : ℕ) → length a ≡ n → length c ≡ n → a ++ b ≡ c ++ d → (a ≡ c) × (b ≡ d)
split_same a b c d n x y e = (sym (take_at a b n x) ∙ ap (take n) e ∙ take_at c d n y, sym (drop_at a b n x) ∙ ap (drop n) e ∙ drop_at c d n y)

-- ---- codes and flights

pub code_once : (text : List ℕ) (a b : Code) → IsCodeAlone text a → IsCodeAlone text b → a ≡ b
code_once [] a b x y = absurd x
code_once (c ∷ text) a b x y = same_Some a b (sym x.0 ∙ y.0)

airline_in : List ℕ → List ℕ
airline_in [] = []
airline_in (a ∷ []) = []
airline_in (a ∷ b ∷ []) = []
airline_in (a ∷ b ∷ c ∷ text) = if is_letter c then a ∷ b ∷ c ∷ [] else a ∷ b ∷ 0 ∷ []

behind_airline : List ℕ → List ℕ
behind_airline [] = []
behind_airline (a ∷ []) = []
behind_airline (a ∷ b ∷ []) = []
behind_airline (a ∷ b ∷ c ∷ text) = if is_letter c then text else c ∷ text

flight_parts : (text : List ℕ) (flight : Flight) (is : IsFlight text flight) → (flight.airline ≡ airline_in text) × (is.digits ++ suffix_text flight.suffix ≡ behind_airline text)
unfolding airline_in behind_airline
flight_parts text flight is =
    let tail = is.digits ++ suffix_text flight.suffix in
    by_airline {P = (flight.airline ≡ airline_in text) × (tail ≡ behind_airline text)} flight.airline text tail is.digits flight.number (suffix_text flight.suffix) is.airline is.number refl is.spelled
    (λ a b c letters same t.
    let letter : is_letter c ≡ true = (and_parts (is_letter a && is_letter b) (is_letter c) letters).1 in
    (rw (t, letter) same, rw (t, letter) refl))
    (λ a b c rest fits no same t end. (rw (t, no) same, rw (t, no) (sym end)))

flight_of : List ℕ → ℕ → ℕ → Flight
flight_of airline number suffix = record { airline = airline; number = number; suffix = suffix }

flight_is : (flight : Flight) → flight ≡ flight_of flight.airline flight.number flight.suffix
unfolding flight_of
flight_is flight = refl

pub flight_once : (text : List ℕ) (a b : Flight) → IsFlight text a → IsFlight text b → a ≡ b
flight_once text a b x y =
    let one = flight_parts text a x in
    let two = flight_parts text b y in
    let airline : a.airline ≡ b.airline = one.0 ∙ sym two.0 in
    let rest = same_number x.digits y.digits a.suffix b.suffix y.number.digits y.number.some x.suffix y.suffix (no_letter_last x.digits a.suffix x.number.digits x.number.some) (one.1 ∙ sym two.1) in
    let number : a.number ≡ b.number = x.number.named ∙ ap flight_number_of rest.0 ∙ sym y.number.named in
    flight_is a ∙ rw (airline, number, rest.1) refl ∙ sym (flight_is b)

pub code_and_flight_once : (text : List ℕ) (code code' : Code) (flight flight' : Flight) → IsCodeAndFlight text code flight → IsCodeAndFlight text code' flight' → (code ≡ code') × (flight ≡ flight')
code_and_flight_once [] code code' flight flight' x y = absurd x
code_and_flight_once (c ∷ text) code code' flight flight' x y = (same_Some code code' (sym x.0 ∙ y.0), flight_once text flight flight' x.1 y.1)

-- ---- dates and periods

-- the second and the third letter of a month add up to a number of its own
month_from : List ℕ → ℕ
month_from text =
    let n = get_or text 1 0 + get_or text 2 0 in
    cond (eqb n 143) 1 (cond (eqb n 135) 2 (cond (eqb n 147) 3 (cond (eqb n 162) 4 (cond (eqb n 154) 5 (cond (eqb n 163) 6
    (cond (eqb n 161) 7 (cond (eqb n 156) 8 (cond (eqb n 149) 9 (cond (eqb n 151) 10 (cond (eqb n 165) 11 12))))))))))

are_months : ℕ → Bool
are_months zero = true
are_months (suc n) = eqb (month_from (month_text (suc n))) (suc n) && are_months n

months_again : (n month : ℕ) → are_months n ≡ true → 1 ≤ month → month ≤ n → month_from (month_text month) ≡ month
unfolding are_months
months_again zero month all low high = absurd (omega (arith, low, high))
months_again (suc n) month all low high =
    let parts = and_parts (eqb (month_from (month_text (suc n))) (suc n)) (are_months n) all in
    elim (cases_eq month (suc n)) [
      | inl last ↦ rw last (eqb-true _ _ parts.0)
      | inr other ↦ months_again n month parts.1 low (omega (arith, high, other))
    ]

month_again : (month : ℕ) → 1 ≤ month → month ≤ 12 → month_from (month_text month) ≡ month
unfolding are_months month_from
month_again month low high = months_again 12 month refl low high

month_once : (a b : ℕ) → 1 ≤ a → a ≤ 12 → 1 ≤ b → b ≤ 12 → month_text a ≡ month_text b → a ≡ b
month_once a b a1 a12 b1 b12 e = sym (month_again a a1 a12) ∙ ap month_from e ∙ month_again b b1 b12

two_once : (a b : ℕ) → a < 100 → b < 100 → two_digits a ≡ two_digits b → a ≡ b
two_once a b x y e =
    let tens : 48 + a / 10 % 10 ≡ 48 + b / 10 % 10 = ap (λ (l : List ℕ). get_or l 0 0) e in
    let ones : 48 + a % 10 ≡ 48 + b % 10 = ap (λ (l : List ℕ). get_or l 1 0) e in
    omega arith

pub date_once : (month day month' day' : ℕ) → 1 ≤ month → month ≤ 12 → day < 100 → 1 ≤ month' → month' ≤ 12 → day' < 100 → date_text month day ≡ date_text month' day' → (month ≡ month') × (day ≡ day')
date_once month day month' day' m1 m12 few m1' m12' few' e =
    let parts = split_same (two_digits day) (month_text month) (two_digits day') (month_text month') 2 refl refl e in
    (month_once month month' m1 m12 m1' m12' parts.1, two_once day day' few few' parts.0)

day_once : (season : Term) (text : List ℕ) (a b : ℕ) → SpellsDay season text a → SpellsDay season text b → a ≡ b
day_once season text a b x y =
    let one = in_range season x.0 x.1 x.2.0 in
    let two = in_range season y.0 y.1 y.2.0 in
    let same = date_once x.0 x.1 y.0 y.1 one.0 one.1 one.2 two.0 two.1 two.2 (sym x.3 ∙ y.3) in
    let number = x.2.1 ∙ rw (same.0, same.1) refl ∙ sym y.2.1 in
    omega (arith, ints, number)

pub period_once : (season : Term) (text : List ℕ) (first last first' last' : ℕ) → IsPeriod season text first last → IsPeriod season text first' last' → (first ≡ first') × (last ≡ last')
period_once season text first last first' last' x y =
    elim (five_or_ten season text first last x) [
      | inl five ↦
          let one = by_five season text first last five x in
          let two = by_five season text first' last' five y in
          let same = day_once season text first first' one.0 two.0 in
          (same, one.1 ∙ same ∙ sym two.1)
      | inr ten ↦
          let one = halves season text first last (by_ten season text first last ten x) in
          let two = halves season text first' last' (by_ten season text first' last' ten y) in
          (day_once season (take 5 text) first first' one.0 two.0, day_once season (drop 5 text) last last' one.1 two.1)
    ]

-- ---- seats and groups

pub seats_once : (text : List ℕ) (seats seats' : ℕ) (craft craft' : List ℕ) → IsSeats text seats craft → IsSeats text seats' craft' → (seats ≡ seats') × (craft ≡ craft')
seats_once text seats seats' craft craft' x y =
    let parts = split_same (three_digits seats) craft (three_digits seats') craft' 3 refl refl (sym x.spelled ∙ y.spelled) in
    let hundreds : 48 + seats / 100 % 10 ≡ 48 + seats' / 100 % 10 = ap (λ (l : List ℕ). get_or l 0 0) parts.0 in
    let tens : 48 + seats / 10 % 10 ≡ 48 + seats' / 10 % 10 = ap (λ (l : List ℕ). get_or l 1 0) parts.0 in
    let ones : 48 + seats % 10 ≡ 48 + seats' % 10 = ap (λ (l : List ℕ). get_or l 2 0) parts.0 in
    (omega (arith, x.few, y.few), parts.1)

pub station_once : (a b : Station) → a.0 ≡ b.0 → a ≡ b
station_once a b e = ap (λ (l : List ℕ). let s : Station = record { 0 = l } in s) e

pub three_long : (station : Station) → IsStation station.0 → length station.0 ≡ 3
three_long station fits = elim (stations_long station None fits) [ inl three ↦ three.0 | inr six ↦ absurd (omega (arith, six.0, six.1)) ]

stations_once : (near near' : Station) (far far' : Option Station) → StationsFit near far → StationsFit near' far' → stations_text near far ≡ stations_text near' far' → (near ≡ near') × (far ≡ far')
stations_once near near' None None x y e = (station_once near near' e, refl)
stations_once near near' None (Some far') x y e =
    absurd (omega (arith, ap length e, three_long near x, length-append near'.0 far'.0, three_long near' y.0, three_long far' y.1))
stations_once near near' (Some far) None x y e =
    absurd (omega (arith, ap length e, three_long near' y, length-append near.0 far.0, three_long near x.0, three_long far x.1))
stations_once near near' (Some far) (Some far') x y e =
    let parts = split_same near.0 far.0 near'.0 far'.0 3 (three_long near x.0) (three_long near' y.0) e in
    let behind : far ≡ far' = station_once far far' parts.1 in
    (station_once near near' parts.0, ap (λ (s : Station). let o : Option Station = Some s in o) behind)

pub arrival_group_once : OneTime → (text : List ℕ) (near near' : Station) (far far' : Option Station) (minute minute' : ℕ) → IsArrivalGroup text near far minute → IsArrivalGroup text near' far' minute' → (near ≡ near') × (far ≡ far') × (minute ≡ minute')
arrival_group_once times text near near' far far' minute minute' x y =
    let e = sym x.spelled ∙ y.spelled in
    let long : length (stations_text near' far') ≡ length (stations_text near far) =
    omega (arith, ap length e, length-append (stations_text near far) (time_text minute), length-append (stations_text near' far') (time_text minute')) in
    let parts = split_same (stations_text near far) (time_text minute) (stations_text near' far') (time_text minute') (length (stations_text near far)) refl long e in
    let stations = stations_once near near' far far' x.stations y.stations parts.0 in
    (stations.0, stations.1, times minute minute' x.time y.time parts.1)

departs_once : OneTime → (text nights nights' : List ℕ) (near near' : Station) (far far' : Option Station) (minute minute' n n' : ℕ) → IsDepartureGroup text nights near far minute → IsNights nights n → IsDepartureGroup text nights' near' far' minute' → IsNights nights' n'
    → (near ≡ near') × (far ≡ far') × (minute ≡ minute') × (n ≡ n')
departs_once times text nights nights' near near' far far' minute minute' n n' x p y q =
    let stations = stations_text near far in
    let stations' = stations_text near' far' in
    let parts = split_same (time_text minute) (nights ++ stations) (time_text minute') (nights' ++ stations') 4 refl refl (sym x.spelled ∙ y.spelled) in
    let one = nights_again nights (nights ++ stations) n near far p x.stations refl in
    let two = nights_again nights' (nights' ++ stations') n' near' far' q y.stations refl in
    let same = stations_once near near' far far' x.stations y.stations (sym one.1 ∙ ap after_nights parts.1 ∙ two.1) in
    (same.0, same.1, times minute minute' x.time y.time parts.0, sym one.0 ∙ ap leading_nights parts.1 ∙ two.0)

pub departure_group_once : OneTime → (text : List ℕ) (near near' : Station) (far far' : Option Station) (minute minute' : ℕ) → IsDepartureGroup text [] near far minute → IsDepartureGroup text [] near' far' minute' → (near ≡ near') × (far ≡ far') × (minute ≡ minute')
departure_group_once times text near near' far far' minute minute' x y =
    let same = departs_once times text [] [] near near' far far' minute minute' 0 0 x (inl (refl, refl)) y (inl (refl, refl)) in
    (same.0, same.1, same.2)

pub later_group_once : OneTime → (text : List ℕ) (earliest : ℕ) (near near' : Station) (far far' : Option Station) (minute minute' n n' : ℕ) → IsLaterGroup text earliest near far minute n → IsLaterGroup text earliest near' far' minute' n'
    → (near ≡ near') × (far ≡ far') × (minute ≡ minute') × (n ≡ n')
later_group_once times text earliest near near' far far' minute minute' n n' x y =
    departs_once times text x.nights_text y.nights_text near near' far far' minute minute' n n' x.group x.nights_said y.group y.nights_said

-- ---- names of seasons

half_once : (a b : Half) → half_letter a ≡ half_letter b → a ≡ b
half_once Summer Summer e = refl
half_once Summer Winter e = absurd (omega arith)
half_once Winter Summer e = absurd (omega arith)
half_once Winter Winter e = refl

term_of : Half → ℕ → Term
term_of half year = record { half = half; year = year }

term_is : (season : Term) → season ≡ term_of season.half season.year
unfolding term_of
term_is season = refl

pub season_once : (a b : Term) → a.year < 100 → b.year < 100 → season_text a ≡ season_text b → a ≡ b
season_once a b x y e =
    let half : a.half ≡ b.half = half_once a.half b.half (ap (λ (l : List ℕ). get_or l 0 0) e) in
    let tens : 48 + a.year / 10 ≡ 48 + b.year / 10 = ap (λ (l : List ℕ). get_or l 1 0) e in
    let ones : 48 + a.year % 10 ≡ 48 + b.year % 10 = ap (λ (l : List ℕ). get_or l 2 0) e in
    let year : a.year ≡ b.year = omega arith in
    term_is a ∙ rw (half, year) refl ∙ sym (term_is b)
