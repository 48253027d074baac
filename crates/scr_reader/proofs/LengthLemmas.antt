-- How long a printed line is.
use Rattle.std.proofs.Common.{◌≡◌, ℕ, zero, suc, ◌+◌, ◌-◌, ◌≤◌, Bool, true, ltb, leb, List, [], ◌∷◌, ◌++◌, length, length-append, get_or, Some, None, refl, arith, inl, inr}
use Rattle.std.specs.Prelude.{Option}
use Rattle.std.proofs.Math.Bool.{◌&&◌}
use Rattle.std.proofs.lemmas.Bool.{cases_Bool, and_parts, leb-true}
use Rattle.schedule_text.specs.Days.{days_text}
use Rattle.schedule_text.specs.Times.{time_text, two_digits}
use Rattle.slot_text.specs.declared.station.Station.{Station}
use Rattle.season_days.specs.Term.{Term}
use Rattle.season_days.specs.Seasons.{date_at}
use Rattle.season_days.specs.declared.day.Period.{Period}
use Rattle.scr_reader.specs.declared.line.Line.{Line}
use Rattle.scr_reader.specs.declared.line.Stop.{Stop}
use Rattle.scr_reader.specs.declared.line.Flight.{Flight}
use Rattle.scr_reader.specs.declared.line.Code.{Code}
use Rattle.scr_reader.specs.Bytes.{three_digits}
use Rattle.scr_reader.specs.Parts.{AirlineFits, airline_text, suffix_text, month_names, month_text, ThreeLettersOrDigits, StationsFit, stations_text}
use Rattle.scr_reader.specs.Printed.{code_letter, number_text, flight_text, nights_text, arrival_group_text, departure_group_text, day_text, dates_text, fields_by, joined, line_text, FlightFits, StopFits, StopsFit, LineFits}
use Rattle.scr_reader.proofs.CleanLemmas.{craft_long, stations_long}

-- ---- parts

airline_few : (airline : List ℕ) → AirlineFits airline → length (airline_text airline) ≤ 3
airline_few [] fits = absurd fits
airline_few (a ∷ []) fits = absurd fits
airline_few (a ∷ b ∷ []) fits = absurd fits
airline_few (a ∷ b ∷ zero ∷ []) fits = omega arith
airline_few (a ∷ b ∷ suc c ∷ []) fits = omega arith
airline_few (a ∷ b ∷ zero ∷ d ∷ airline) fits = absurd fits
airline_few (a ∷ b ∷ suc c ∷ d ∷ airline) fits = absurd fits

number_few : (n : ℕ) → length (number_text n) ≤ 4
number_few n =
    elim (cases_Bool (ltb n 1000)) [
      | inl small ↦ rw small (omega arith)
      | inr large ↦ rw large (omega arith)
    ]

suffix_few : (s : ℕ) → length (suffix_text s) ≤ 1
suffix_few zero = omega arith
suffix_few (suc s) = omega arith

pub flight_few : (flight : Flight) → FlightFits flight → length (flight_text flight) ≤ 8
flight_few flight fits =
    omega (arith, length-append (airline_text flight.airline) (number_text flight.number ++ suffix_text flight.suffix), length-append (number_text flight.number) (suffix_text flight.suffix), airline_few flight.airline fits.airline, number_few flight.number, suffix_few flight.suffix)

abbrev short_each : List (List ℕ) → Bool
short_each [] = true
short_each (text ∷ texts) = leb (length text) 3 && short_each texts

short_at : (texts : List (List ℕ)) (k : ℕ) → short_each texts ≡ true → length (get_or texts k []) ≤ 3
short_at [] k all = omega arith
short_at (text ∷ texts) zero all = leb-true (length text) 3 (and_parts (leb (length text) 3) (short_each texts) all).0
short_at (text ∷ texts) (suc k) all = short_at texts k (and_parts (leb (length text) 3) (short_each texts) all).1

day_few : (season : Term) (day : ℕ) → length (day_text season day) ≤ 5
day_few season day = omega (arith, length-append (two_digits (date_at season day).of_month) (month_text (date_at season day).month), short_at month_names ((date_at season day).month - 1) refl)

pub dates_few : (season : Term) (period : Period) → length (dates_text season period) ≤ 10
dates_few season period = omega (arith, length-append (day_text season period.first.0) (day_text season period.last.0), day_few season period.first.0, day_few season period.last.0)

pub seats_few : (seats : ℕ) (craft : List ℕ) → ThreeLettersOrDigits craft → length (three_digits seats ++ craft) ≤ 6
seats_few seats craft fits = omega (arith, length-append (three_digits seats) craft, craft_long craft fits)

stations_few : (near : Station) (far : Option Station) → StationsFit near far → length (stations_text near far) ≤ 6
stations_few near far fits =
    elim (stations_long near far fits) [
      | inl one ↦ omega (arith, one.0)
      | inr two ↦ omega (arith, two.0)
    ]

nights_few : (n : ℕ) → length (nights_text n) ≤ 1
nights_few zero = omega arith
nights_few (suc n) = omega arith

pub coming_few : (stop : Stop) → StopFits stop → length (arrival_group_text stop) ≤ 10
coming_few stop fits = omega (arith, length-append (stations_text stop.near stop.far) (time_text stop.minute), stations_few stop.near stop.far fits.stations)

pub going_few : (stop : Stop) (n : ℕ) → StopFits stop → length (departure_group_text stop n) ≤ 11
going_few stop n fits =
    omega (arith, length-append (time_text stop.minute) (nights_text n ++ stations_text stop.near stop.far), length-append (nights_text n) (stations_text stop.near stop.far), stations_few stop.near stop.far fits.stations, nights_few n)

-- ---- lines

joined_length : (text next : List ℕ) (fields : List (List ℕ)) → length (joined (text ∷ next ∷ fields)) ≡ length text + (1 + length (joined (next ∷ fields)))
joined_length text next fields = omega (arith, length-append text (32 ∷ joined (next ∷ fields)))

pub arrival_short : (season : Term) (code : Code) (stop : Stop) (period : Period) (seats : ℕ) (craft : List ℕ) → StopFits stop → ThreeLettersOrDigits craft
    → length (joined ((code_letter code ∷ flight_text stop.flight) ∷ dates_text season period ∷ days_text period.days ∷ (three_digits seats ++ craft) ∷ arrival_group_text stop ∷ (stop.service ∷ []) ∷ [])) ≤ 70
arrival_short season code stop period seats craft fits kind =
    let d = dates_text season period in
    let w = days_text period.days in
    let s = three_digits seats ++ craft in
    let g = arrival_group_text stop in
    omega (
      arith,
      length-append (code_letter code ∷ flight_text stop.flight) (32 ∷ joined (d ∷ w ∷ s ∷ g ∷ (stop.service ∷ []) ∷ [])),
      joined_length d w (s ∷ g ∷ (stop.service ∷ []) ∷ []),
      joined_length w s (g ∷ (stop.service ∷ []) ∷ []),
      joined_length s g ((stop.service ∷ []) ∷ []),
      joined_length g (stop.service ∷ []) [],
      flight_few stop.flight fits.flight,
      dates_few season period,
      seats_few seats craft kind,
      coming_few stop fits,
    )

pub departure_short : (season : Term) (code : Code) (stop : Stop) (period : Period) (seats : ℕ) (craft : List ℕ) → StopFits stop → ThreeLettersOrDigits craft
    → length (joined ((code_letter code ∷ []) ∷ flight_text stop.flight ∷ dates_text season period ∷ days_text period.days ∷ (three_digits seats ++ craft) ∷ departure_group_text stop 0 ∷ (stop.service ∷ []) ∷ [])) ≤ 70
departure_short season code stop period seats craft fits kind =
    let f = flight_text stop.flight in
    let d = dates_text season period in
    let w = days_text period.days in
    let s = three_digits seats ++ craft in
    let g = departure_group_text stop 0 in
    omega (
      arith,
      length-append (code_letter code ∷ []) (32 ∷ joined (f ∷ d ∷ w ∷ s ∷ g ∷ (stop.service ∷ []) ∷ [])),
      joined_length f d (w ∷ s ∷ g ∷ (stop.service ∷ []) ∷ []),
      joined_length d w (s ∷ g ∷ (stop.service ∷ []) ∷ []),
      joined_length w s (g ∷ (stop.service ∷ []) ∷ []),
      joined_length s g ((stop.service ∷ []) ∷ []),
      joined_length g (stop.service ∷ []) [],
      flight_few stop.flight fits.flight,
      dates_few season period,
      seats_few seats craft kind,
      going_few stop 0 fits,
    )

pub turnaround_short : (season : Term) (code : Code) (coming going : Stop) (nights : ℕ) (period : Period) (seats : ℕ) (craft : List ℕ) → StopFits coming → StopFits going → ThreeLettersOrDigits craft
    → length (joined ((code_letter code ∷ flight_text coming.flight) ∷ flight_text going.flight ∷ dates_text season period ∷ days_text period.days ∷ (three_digits seats ++ craft) ∷ arrival_group_text coming ∷ departure_group_text going nights ∷ (coming.service ∷ going.service ∷ []) ∷ [])) ≤ 70
turnaround_short season code coming going nights period seats craft comes goes kind =
    let f = flight_text going.flight in
    let d = dates_text season period in
    let w = days_text period.days in
    let s = three_digits seats ++ craft in
    let g = arrival_group_text coming in
    let h = departure_group_text going nights in
    let v : List ℕ = coming.service ∷ going.service ∷ [] in
    omega (
      arith,
      length-append (code_letter code ∷ flight_text coming.flight) (32 ∷ joined (f ∷ d ∷ w ∷ s ∷ g ∷ h ∷ v ∷ [])),
      joined_length f d (w ∷ s ∷ g ∷ h ∷ v ∷ []),
      joined_length d w (s ∷ g ∷ h ∷ v ∷ []),
      joined_length w s (g ∷ h ∷ v ∷ []),
      joined_length s g (h ∷ v ∷ []),
      joined_length g h (v ∷ []),
      joined_length h v [],
      flight_few coming.flight comes.flight,
      flight_few going.flight goes.flight,
      dates_few season period,
      seats_few seats craft kind,
      coming_few coming comes,
      going_few going nights goes,
    )

short_fields : (season : Term) (code : Code) (line : Line) (a d : Option Stop) → StopsFit line a d → ThreeLettersOrDigits line.craft.0
    → length (joined (fields_by (code_letter code) line (dates_text season line.period) (days_text line.period.days) (three_digits line.seats ++ line.craft.0) a d)) ≤ 70
short_fields season code line None None fits kind = absurd fits
short_fields season code line (Some coming) None fits kind = arrival_short season code coming line.period line.seats line.craft.0 fits.0 kind
short_fields season code line None (Some going) fits kind = departure_short season code going line.period line.seats line.craft.0 fits.0 kind
short_fields season code line (Some coming) (Some going) fits kind = turnaround_short season code coming going line.nights line.period line.seats line.craft.0 fits.0 fits.1 kind

pub printed_short : (season : Term) (code : Code) (line : Line) → LineFits season line → length (line_text season code line) ≤ 70
printed_short season code line fits = short_fields season code line line.arrival line.departure fits.stops fits.craft
