-- What is printed is read again.
use Rattle.std.proofs.Common.{◌≡◌, ◌≢◌, ◌↔◌, ℕ, zero, suc, ◌+◌, ◌*◌, ◌/◌, ◌%◌, ◌<◌, ◌≤◌, Bool, true, false, ltb, List, [], ◌∷◌, ◌++◌, length, length-append, Some, None, refl, sym, ap, subst, ◌∙◌, arith, inl, inr}
use Rattle.schedule_text.specs.Days.{days_text}
use Rattle.schedule_text.specs.Times.{time_text, digit, two_digits}
use Rattle.std.specs.Prelude.{Option, ◌==◌}
use Rattle.std.proofs.Math.Bool.{◌&&◌, ◌||◌}
use Rattle.std.proofs.lemmas.Bool.{cases_Bool, ne_eqb, and_parts, ltb-true}
use Rattle.std.proofs.lemmas.Bool.Decides.{nat_tests}
use Rattle.slot_text.specs.Fields.{is_blank, fields_of}
use Rattle.slot_text.specs.Lines.{onto_first}
use Rattle.season_days.specs.Term.{Term}
use Rattle.season_days.specs.Seasons.{date_count, date_at, dates_of, IsDayNamed}
use Rattle.season_days.specs.declared.day.Period.{Period}
use Rattle.slot_text.specs.declared.lines.TheConstants.{LONGEST_LINE}
use Rattle.scr_reader.specs.declared.line.Line.{Line}
use Rattle.scr_reader.specs.declared.line.Stop.{Stop}
use Rattle.scr_reader.specs.declared.line.Craft.{Craft}
use Rattle.scr_reader.specs.declared.line.Flight.{Flight}
use Rattle.scr_reader.specs.declared.line.Code.{Code}
use Rattle.scr_reader.specs.declared.line.Code.TheVariants.{N, B, F, C, R, L, D, A, Z, K, H, O, U, W, X}
use Rattle.scr_reader.specs.Bytes.{is_letter, is_digit, three_digits, four_digits}
use Rattle.scr_reader.specs.Parts.{AirlineFits, airline_text, NamesNumber, suffix_text, IsFlight, begins_with_flight, month_text, SpellsDay, IsPeriod, ThreeLettersOrDigits, stations_text, IsNights}
use Rattle.scr_reader.specs.Shapes.{arrival, departure, turnaround, shape_of, arrival_service, departure_service, both_services, IsLine}
use Rattle.scr_reader.specs.Rows.{is_remark, is_question, line_fields, entry, question, IsQuestion, IsRow}
use Rattle.scr_reader.specs.Printed.{code_letter, number_text, flight_text, nights_text, arrival_group_text, departure_group_text, day_text, dates_text, joined, line_text, FlightFits, StopFits, LineFits, IsAsked, PrintsBack}
use Rattle.scr_reader.proofs.AgreeLemmas.{whole_line}
use Rattle.scr_reader.proofs.ShapeLemmas.{arriving, leaving, turning, arrival_6, departure_7, turnaround_8}
use Rattle.scr_reader.proofs.TrimLemmas.{not_blank}
use Rattle.scr_reader.proofs.LengthLemmas.{flight_few, arrival_short, departure_short, turnaround_short}
use Rattle.scr_reader.proofs.CleanLemmas.{Clean, clean_append, clean_one, clean_flight, clean_two, clean_stations, clean_dates, clean_days, clean_seats, clean_group}

-- ---- fields that are joined by blanks

abbrev AllFull : List (List ℕ) → Type 0
AllFull [] = Unit {0}
AllFull (text ∷ texts) = Clean text × (1 ≤ length text) × AllFull texts

no_blank : (b : ℕ) → 33 ≤ b → is_blank b ≡ false
no_blank b above = not_blank b (λ e. omega (arith, above, e)) (λ e. omega (arith, above, e))

step_in : (b c : ℕ) (line : List ℕ) → is_blank b ≡ false → is_blank c ≡ false → fields_of (b ∷ c ∷ line) ≡ onto_first b (fields_of (c ∷ line))
unfolding fields_of
step_in b c line eb ec = rw (eb, ec) refl

step_end : (b : ℕ) (rest : List ℕ) → is_blank b ≡ false → fields_of (b ∷ 32 ∷ rest) ≡ (b ∷ []) ∷ fields_of rest
unfolding fields_of
step_end b rest eb = rw eb refl

step_last : (b : ℕ) → is_blank b ≡ false → fields_of (b ∷ []) ≡ (b ∷ []) ∷ []
unfolding fields_of
step_last b eb = rw eb refl

fields_first : (text rest : List ℕ) → Clean text → 1 ≤ length text → fields_of (text ++ (32 ∷ rest)) ≡ text ∷ fields_of rest
fields_first [] rest clean some = absurd (omega (arith, some))
fields_first (b ∷ []) rest clean some = step_end b rest (no_blank b clean.0)
fields_first (b ∷ c ∷ text) rest clean some =
    step_in b c (text ++ (32 ∷ rest)) (no_blank b clean.0) (no_blank c clean.1.0) ∙ ap (onto_first b) (fields_first (c ∷ text) rest clean.1 (omega arith))

fields_last : (text : List ℕ) → Clean text → 1 ≤ length text → fields_of text ≡ text ∷ []
fields_last [] clean some = absurd (omega (arith, some))
fields_last (b ∷ []) clean some = step_last b (no_blank b clean.0)
fields_last (b ∷ c ∷ text) clean some = step_in b c text (no_blank b clean.0) (no_blank c clean.1.0) ∙ ap (onto_first b) (fields_last (c ∷ text) clean.1 (omega arith))

fields_joined : (fields : List (List ℕ)) → AllFull fields → 1 ≤ length fields → fields_of (joined fields) ≡ fields
fields_joined [] full some = absurd (omega (arith, some))
fields_joined (text ∷ []) full some = fields_last text full.0 full.1
fields_joined (text ∷ next ∷ fields) full some = fields_first text (joined (next ∷ fields)) full.0 full.1 ∙ ap (λ (l : List (List ℕ)). text ∷ l) (fields_joined (next ∷ fields) full.2 (omega arith))

-- ---- parts

digit_is : (n : ℕ) → is_digit (digit n) ≡ true
digit_is n = grind (arith, nat_tests)

digit_no_letter : (n : ℕ) → is_letter (digit n) ≡ false
digit_no_letter n = grind (arith, nat_tests)

names_three : (n : ℕ) → n < 1000 → NamesNumber (three_digits n) n
names_three n lt = record { digits = rw (digit_is (n / 100), digit_is (n / 10), digit_is n) refl; some = omega arith; most = omega arith; named = omega (arith, lt) }

names_four : (n : ℕ) → n < 10000 → NamesNumber (four_digits n) n
names_four n lt = record { digits = rw (digit_is (n / 1000), digit_is (n / 100), digit_is (n / 10), digit_is n) refl; some = omega arith; most = omega arith; named = omega (arith, lt) }

names_number : (n : ℕ) → n < 10000 → NamesNumber (number_text n) n
names_number n lt =
    elim (cases_Bool (ltb n 1000)) [
      | inl small ↦
          let e : number_text n ≡ three_digits n = rw small refl in
          subst (λ (t : List ℕ). NamesNumber t n) (sym e) (names_three n (ltb-true n 1000 small))
      | inr large ↦
          let e : number_text n ≡ four_digits n = rw large refl in
          subst (λ (t : List ℕ). NamesNumber t n) (sym e) (names_four n lt)
    ]

flight_named : (flight : Flight) → FlightFits flight → IsFlight (flight_text flight) flight
flight_named flight fits = record { digits = number_text flight.number; airline = fits.airline; number = names_number flight.number fits.number; suffix = fits.suffix; spelled = refl }

-- a month and a day of the month name a day exactly where they are those of its date
abbrev pub NamedDays : Term → Type 0
NamedDays season = (month of_month day : ℕ) → IsDayNamed season month of_month day ↔ ((day < date_count season) × ((date_at season day).month ≡ month) × ((date_at season day).of_month ≡ of_month))

spells_day : (season : Term) (day : ℕ) → NamedDays season → day < date_count season → SpellsDay season (day_text season day) day
spells_day season day law lt = ((date_at season day).month, (date_at season day).of_month, (law (date_at season day).month (date_at season day).of_month day).1 (lt, refl, refl), refl)

spells_period : (season : Term) (period : Period) → NamedDays season → period.first.0 < date_count season → period.last.0 < date_count season → period.first.0 ≤ period.last.0 → IsPeriod season (dates_text season period) period.first.0 period.last.0
spells_period season period law first last ordered =
    record { dates = inl (record { first_text = day_text season period.first.0; last_text = day_text season period.last.0; first_day = spells_day season period.first.0 law first; last_day = spells_day season period.last.0 law last; spelled = refl }); ordered = ordered }

spells_nights : (n : ℕ) → n < 10 → IsNights (nights_text n) n
spells_nights zero lt = inl (refl, refl)
spells_nights (suc n) lt = inr (lt, refl)

-- ---- the shape

begins : (airline : List ℕ) (n : ℕ) (suffix : List ℕ) → AirlineFits airline → begins_with_flight (airline_text airline ++ (number_text n ++ suffix)) ≡ true
begins [] n suffix fits = absurd fits
begins (a ∷ []) n suffix fits = absurd fits
begins (a ∷ b ∷ []) n suffix fits = absurd fits
begins (a ∷ b ∷ zero ∷ []) n suffix fits =
    elim (cases_Bool (ltb n 1000)) [
      | inl small ↦ rw (small, digit_no_letter (n / 100), fits, digit_is (n / 100)) refl
      | inr large ↦ rw (large, digit_no_letter (n / 1000), fits, digit_is (n / 1000)) refl
    ]
begins (a ∷ b ∷ suc c ∷ []) n suffix fits =
    let outer = and_parts (is_letter a && is_letter b) (is_letter (suc c)) fits in
    elim (cases_Bool (ltb n 1000)) [
      | inl small ↦ rw (small, outer.1, outer.0, digit_is (n / 100)) refl
      | inr large ↦ rw (large, outer.1, outer.0, digit_is (n / 1000)) refl
    ]
begins (a ∷ b ∷ zero ∷ d ∷ airline) n suffix fits = absurd fits
begins (a ∷ b ∷ suc c ∷ d ∷ airline) n suffix fits = absurd fits

flight_begins : (flight : Flight) → FlightFits flight → begins_with_flight (flight_text flight) ≡ true
flight_begins flight fits = begins flight.airline flight.number (suffix_text flight.suffix) fits.airline

long_airline : (airline rest : List ℕ) → AirlineFits airline → (b : ℕ) × (more : List ℕ) × (airline_text airline ++ rest ≡ b ∷ more)
long_airline [] rest fits = absurd fits
long_airline (a ∷ []) rest fits = absurd fits
long_airline (a ∷ b ∷ []) rest fits = absurd fits
long_airline (a ∷ b ∷ zero ∷ []) rest fits = (a, b ∷ rest, refl)
long_airline (a ∷ b ∷ suc c ∷ []) rest fits = (a, b ∷ suc c ∷ rest, refl)
long_airline (a ∷ b ∷ zero ∷ d ∷ airline) rest fits = absurd fits
long_airline (a ∷ b ∷ suc c ∷ d ∷ airline) rest fits = absurd fits

flight_long : (flight : Flight) → FlightFits flight → (b : ℕ) × (rest : List ℕ) × (flight_text flight ≡ b ∷ rest)
flight_long flight fits = long_airline flight.airline (number_text flight.number ++ suffix_text flight.suffix) fits.airline

and_no : (x y : Bool) → ((x && (false || false)) && y) ≡ false
and_no true y = refl
and_no false y = refl

-- two digits begin no flight
dates_begin : (a b : ℕ) (text : List ℕ) → is_letter a ≡ false → is_letter b ≡ false → begins_with_flight (a ∷ b ∷ text) ≡ false
dates_begin a b [] na nb = refl
dates_begin a b (c ∷ []) na nb = rw (na, nb) (and_no _ _)
dates_begin a b (c ∷ d ∷ text) na nb =
    elim (cases_Bool (is_letter c)) [
      | inl letter ↦ rw (letter, na) refl
      | inr other ↦ rw (other, na, nb) (and_no _ _)
    ]

-- ---- the first byte

code_no_blank : (code : Code) → is_blank (code_letter code) ≡ false
code_no_blank N = refl
code_no_blank B = refl
code_no_blank F = refl
code_no_blank C = refl
code_no_blank R = refl
code_no_blank L = refl
code_no_blank D = refl
code_no_blank A = refl
code_no_blank Z = refl
code_no_blank K = refl
code_no_blank H = refl
code_no_blank O = refl
code_no_blank U = refl
code_no_blank W = refl
code_no_blank X = refl

pub code_above : (code : Code) → 33 ≤ code_letter code
code_above N = omega arith
code_above B = omega arith
code_above F = omega arith
code_above C = omega arith
code_above R = omega arith
code_above L = omega arith
code_above D = omega arith
code_above A = omega arith
code_above Z = omega arith
code_above K = omega arith
code_above H = omega arith
code_above O = omega arith
code_above U = omega arith
code_above W = omega arith
code_above X = omega arith

code_no_remark : (code : Code) (b : ℕ) (line : List ℕ) → is_remark (code_letter code ∷ b ∷ line) ≡ false
code_no_remark N b line = refl
code_no_remark B b line = refl
code_no_remark F b line = refl
code_no_remark C b line = refl
code_no_remark R b line = refl
code_no_remark L b line = refl
code_no_remark D b line = refl
code_no_remark A b line = refl
code_no_remark Z b line = refl
code_no_remark K b line = refl
code_no_remark H b line = refl
code_no_remark O b line = refl
code_no_remark U b line = refl
code_no_remark W b line = refl
code_no_remark X b line = refl

code_no_question : (code : Code) (text : List ℕ) (fields : List (List ℕ)) → is_question ((code_letter code ∷ text) ∷ fields) ≡ false
code_no_question N text fields = refl
code_no_question B text fields = refl
code_no_question F text fields = refl
code_no_question C text fields = refl
code_no_question R text fields = refl
code_no_question L text fields = refl
code_no_question D text fields = refl
code_no_question A text fields = refl
code_no_question Z text fields = refl
code_no_question K text fields = refl
code_no_question H text fields = refl
code_no_question O text fields = refl
code_no_question U text fields = refl
code_no_question W text fields = refl
code_no_question X text fields = refl

nights_clean : (n : ℕ) → Clean (nights_text n)
nights_clean zero = tt
nights_clean (suc n) = (omega arith, tt)

pub going_clean : (stop : Stop) (n : ℕ) → StopFits stop → Clean (departure_group_text stop n)
going_clean stop n fits =
    clean_append (time_text stop.minute) (nights_text n ++ stations_text stop.near stop.far) (clean_append (two_digits (stop.minute / 60)) (two_digits (stop.minute % 60)) (clean_two (stop.minute / 60)) (clean_two (stop.minute % 60)))
    (clean_append (nights_text n) (stations_text stop.near stop.far) (nights_clean n) (clean_stations stop.near stop.far fits.stations))

-- ---- a line of fields

second_byte : (code : Code) (front rest : List ℕ) → is_remark (code_letter code ∷ (front ++ (32 ∷ rest))) ≡ false
second_byte code [] rest = code_no_remark code 32 rest
second_byte code (b ∷ front) rest = code_no_remark code b (front ++ (32 ∷ rest))

row_of_fields : (season : Term) (code : Code) (front next : List ℕ) (fields : List (List ℕ)) (value : Line) → AllFull ((code_letter code ∷ front) ∷ next ∷ fields) → length (joined ((code_letter code ∷ front) ∷ next ∷ fields)) ≤ LONGEST_LINE
    → IsLine season ((code_letter code ∷ front) ∷ next ∷ fields) value → IsRow season (joined ((code_letter code ∷ front) ∷ next ∷ fields)) (entry value)
row_of_fields season code front next fields value full short is =
    let all : List (List ℕ) = (code_letter code ∷ front) ∷ next ∷ fields in
    let begins : line_fields (joined all) ≡ fields_of (joined all) = rw (code_no_blank code) refl in
    let cut : line_fields (joined all) ≡ all = begins ∙ fields_joined all full (omega arith) in
    (record { read = second_byte code front (joined (next ∷ fields)); short = short; kind = ap is_question cut ∙ code_no_question code front (next ∷ fields) }, subst (λ (f : List (List ℕ)). IsLine season f value) (sym cut) is)

-- ---- the three shapes

-- the period, the weekdays, the seats and the type fit
record MiddleFits (season : Term) (period : Period) (seats : ℕ) (craft : Craft) : Type 0 where
  first : period.first.0 < date_count season
  last : period.last.0 < date_count season
  ordered : period.first.0 ≤ period.last.0
  week : period.days < 128
  dated : dates_of season period ≢ []
  few : seats < 1000
  kind : ThreeLettersOrDigits craft.0

no_single : (code : Code) (flight : Flight) → FlightFits flight → (length (code_letter code ∷ flight_text flight) == 1) ≡ false
no_single code flight fits =
    let long = flight_long flight fits in
    ne_eqb (length (code_letter code ∷ flight_text flight)) 1 (λ e. omega (arith, e, ap (λ (l : List ℕ). length l) long.2))

some_flight : (flight : Flight) → FlightFits flight → 1 ≤ length (flight_text flight)
some_flight flight fits = let long = flight_long flight fits in omega (arith, ap (λ (l : List ℕ). length l) long.2)

dates_no_flight : (season : Term) (period : Period) → begins_with_flight (dates_text season period) ≡ false
dates_no_flight season period =
    let day = (date_at season period.first.0).of_month in
    dates_begin (digit (day / 10)) (digit day) (month_text (date_at season period.first.0).month ++ day_text season period.last.0) (digit_no_letter (day / 10)) (digit_no_letter day)

some_dates : (season : Term) (period : Period) → 1 ≤ length (dates_text season period)
some_dates season period = omega (arith, length-append (day_text season period.first.0) (day_text season period.last.0), length-append (two_digits (date_at season period.first.0).of_month) (month_text (date_at season period.first.0).month))

some_going : (stop : Stop) (n : ℕ) → 1 ≤ length (departure_group_text stop n)
some_going stop n = omega (arith, length-append (time_text stop.minute) (nights_text n ++ stations_text stop.near stop.far))

some_coming : (stop : Stop) → 1 ≤ length (arrival_group_text stop)
some_coming stop = omega (arith, length-append (stations_text stop.near stop.far) (time_text stop.minute))

pub code_clean : (code : Code) (flight : Flight) → FlightFits flight → Clean (code_letter code ∷ flight_text flight)
code_clean code flight fits = (code_above code, clean_flight flight fits)

arrival_back : (season : Term) (code : Code) (stop : Stop) (period : Period) (seats : ℕ) (craft : Craft) → NamedDays season → IsAsked code → StopFits stop → MiddleFits season period seats craft
    → IsRow season (joined ((code_letter code ∷ flight_text stop.flight) ∷ dates_text season period ∷ days_text period.days ∷ (three_digits seats ++ craft.0) ∷ arrival_group_text stop ∷ (stop.service ∷ []) ∷ [])) (entry (arriving code stop period seats craft))
arrival_back season code stop period seats craft law asked fits middle =
    let d = dates_text season period in
    let w = days_text period.days in
    let s = three_digits seats ++ craft.0 in
    let g = arrival_group_text stop in
    let fields : List (List ℕ) = (code_letter code ∷ flight_text stop.flight) ∷ d ∷ w ∷ s ∷ g ∷ (stop.service ∷ []) ∷ [] in
    let line = arriving code stop period seats craft in
    let shape : shape_of fields ≡ arrival = rw (no_single code stop.flight fits.flight, dates_no_flight season period) refl in
    let said = arrival_6 season fields line (asked, flight_named stop.flight fits.flight) (spells_period season period law middle.first middle.last middle.ordered) (record { week = middle.week; spelled = inl refl }, middle.dated)
    (record { few = middle.few; kind = middle.kind; spelled = refl }) (record { stations = fits.stations; time = fits.minute; spelled = refl }) (fits.service, refl) in
    let short : length (joined fields) ≤ LONGEST_LINE = omega (arith, arrival_short season code stop period seats craft.0 fits middle.kind) in
    row_of_fields season code (flight_text stop.flight) d (w ∷ s ∷ g ∷ (stop.service ∷ []) ∷ []) line (
      code_clean code stop.flight fits.flight,
      omega arith,
      (
        clean_dates season period.first.0 period.last.0,
        some_dates season period,
        (
          clean_days period.days,
          omega arith,
          (
            clean_seats seats craft.0 middle.kind,
            omega arith,
            (clean_group stop.near stop.far stop.minute fits.stations, some_coming stop, (clean_one stop.service fits.service, omega arith, tt)),
          ),
        ),
      ),
    )
    short (whole_line season fields arrival 5 arrival_service line shape (refl, refl, refl) refl refl said refl)

departure_back : (season : Term) (code : Code) (stop : Stop) (period : Period) (seats : ℕ) (craft : Craft) → NamedDays season → IsAsked code → StopFits stop → MiddleFits season period seats craft
    → IsRow season (joined ((code_letter code ∷ []) ∷ flight_text stop.flight ∷ dates_text season period ∷ days_text period.days ∷ (three_digits seats ++ craft.0) ∷ departure_group_text stop 0 ∷ (stop.service ∷ []) ∷ [])) (entry (leaving code stop period seats craft))
departure_back season code stop period seats craft law asked fits middle =
    let f = flight_text stop.flight in
    let d = dates_text season period in
    let w = days_text period.days in
    let s = three_digits seats ++ craft.0 in
    let g = departure_group_text stop 0 in
    let fields : List (List ℕ) = (code_letter code ∷ []) ∷ f ∷ d ∷ w ∷ s ∷ g ∷ (stop.service ∷ []) ∷ [] in
    let line = leaving code stop period seats craft in
    let shape : shape_of fields ≡ departure = refl in
    let said = departure_7 season fields line (asked, refl) (flight_named stop.flight fits.flight) (spells_period season period law middle.first middle.last middle.ordered) (record { week = middle.week; spelled = inl refl }, middle.dated)
    (record { few = middle.few; kind = middle.kind; spelled = refl }) (record { stations = fits.stations; time = fits.minute; spelled = refl }) (fits.service, refl) in
    let short : length (joined fields) ≤ LONGEST_LINE = omega (arith, departure_short season code stop period seats craft.0 fits middle.kind) in
    row_of_fields season code [] f (d ∷ w ∷ s ∷ g ∷ (stop.service ∷ []) ∷ []) line (
      (code_above code, tt),
      omega arith,
      (
        clean_flight stop.flight fits.flight,
        some_flight stop.flight fits.flight,
        (
          clean_dates season period.first.0 period.last.0,
          some_dates season period,
          (
            clean_days period.days,
            omega arith,
            (clean_seats seats craft.0 middle.kind, omega arith, (going_clean stop 0 fits, some_going stop 0, (clean_one stop.service fits.service, omega arith, tt))),
          ),
        ),
      ),
    )
    short (whole_line season fields departure 6 departure_service line shape (refl, refl, refl) refl refl said refl)

turnaround_back : (season : Term) (code : Code) (coming going : Stop) (nights : ℕ) (period : Period) (seats : ℕ) (craft : Craft) → NamedDays season → IsAsked code → StopFits coming → StopFits going → nights < 10 → coming.minute ≤ 1440 * nights + going.minute → MiddleFits season period seats craft
    → IsRow season (joined ((code_letter code ∷ flight_text coming.flight) ∷ flight_text going.flight ∷ dates_text season period ∷ days_text period.days ∷ (three_digits seats ++ craft.0) ∷ arrival_group_text coming ∷ departure_group_text going nights ∷ (coming.service ∷ going.service ∷ []) ∷ []))
    (entry (turning code coming going nights period seats craft))
turnaround_back season code coming going nights period seats craft law asked comes goes few later middle =
    let f = flight_text going.flight in
    let d = dates_text season period in
    let w = days_text period.days in
    let s = three_digits seats ++ craft.0 in
    let g = arrival_group_text coming in
    let h = departure_group_text going nights in
    let v : List ℕ = coming.service ∷ going.service ∷ [] in
    let fields : List (List ℕ) = (code_letter code ∷ flight_text coming.flight) ∷ f ∷ d ∷ w ∷ s ∷ g ∷ h ∷ v ∷ [] in
    let line = turning code coming going nights period seats craft in
    let shape : shape_of fields ≡ turnaround = rw (no_single code coming.flight comes.flight, flight_begins going.flight goes.flight) refl in
    let said = turnaround_8 season fields line (asked, flight_named coming.flight comes.flight) (flight_named going.flight goes.flight) (spells_period season period law middle.first middle.last middle.ordered) (record { week = middle.week; spelled = inl refl }, middle.dated)
    (record { few = middle.few; kind = middle.kind; spelled = refl }) (record { stations = comes.stations; time = comes.minute; spelled = refl })
    (record { nights_text = nights_text nights; group = record { stations = goes.stations; time = goes.minute; spelled = refl }; nights_said = spells_nights nights few; later = later }) (comes.service, goes.service, refl) in
    let short : length (joined fields) ≤ LONGEST_LINE = omega (arith, turnaround_short season code coming going nights period seats craft.0 comes goes middle.kind) in
    row_of_fields season code (flight_text coming.flight) f (d ∷ w ∷ s ∷ g ∷ h ∷ v ∷ []) line (
      code_clean code coming.flight comes.flight,
      omega arith,
      (
        clean_flight going.flight goes.flight,
        some_flight going.flight goes.flight,
        (
          clean_dates season period.first.0 period.last.0,
          some_dates season period,
          (
            clean_days period.days,
            omega arith,
            (
              clean_seats seats craft.0 middle.kind,
              omega arith,
              (
                clean_group coming.near coming.far coming.minute comes.stations,
                some_coming coming,
                (
                  going_clean going nights goes,
                  some_going going nights,
                  (((clean_one coming.service comes.service).0, clean_one going.service goes.service), omega arith, tt),
                ),
              ),
            ),
          ),
        ),
      ),
    )
    short (whole_line season fields turnaround 7 both_services line shape (refl, refl) refl refl said refl)

-- ---- all lines

abbrev line_with : Code → Option Stop → Option Stop → ℕ → Period → ℕ → Craft → Line
line_with code a d nights period seats craft = record { code = code; arrival = a; departure = d; nights = nights; period = period; seats = seats; craft = craft }

middle_of : (season : Term) (line : Line) → LineFits season line → MiddleFits season line.period line.seats line.craft
middle_of season line fits = record { first = fits.first; last = fits.last; ordered = fits.ordered; week = fits.week; dated = fits.dated; few = fits.seats; kind = fits.craft }

back : (season : Term) (code c : Code) (a d : Option Stop) (nights : ℕ) (period : Period) (seats : ℕ) (craft : Craft) → NamedDays season → IsAsked code → LineFits season (line_with c a d nights period seats craft)
    → IsRow season (line_text season code (line_with c a d nights period seats craft)) (entry (line_with code a d nights period seats craft))
back season code c None None nights period seats craft law asked fits = absurd fits.stops
back season code c (Some coming) None nights period seats craft law asked fits =
    let text = line_text season code (line_with c (Some coming) None nights period seats craft) in
    subst (λ (n : ℕ). IsRow season text (entry (line_with code (Some coming) None n period seats craft))) (sym fits.stops.1)
    (arrival_back season code coming period seats craft law asked fits.stops.0 (middle_of season (line_with c (Some coming) None nights period seats craft) fits))
back season code c None (Some going) nights period seats craft law asked fits =
    let text = line_text season code (line_with c None (Some going) nights period seats craft) in
    subst (λ (n : ℕ). IsRow season text (entry (line_with code None (Some going) n period seats craft))) (sym fits.stops.1)
    (departure_back season code going period seats craft law asked fits.stops.0 (middle_of season (line_with c None (Some going) nights period seats craft) fits))
back season code c (Some coming) (Some going) nights period seats craft law asked fits =
    turnaround_back season code coming going nights period seats craft law asked fits.stops.0 fits.stops.1 fits.stops.2 fits.stops.3 (middle_of season (line_with c (Some coming) (Some going) nights period seats craft) fits)

pub printed_back : (season : Term) (code : Code) (line : Line) → NamedDays season → PrintsBack season code line
printed_back season code line law asked fits = back season code line.code line.arrival line.departure line.nights line.period line.seats line.craft law asked fits

-- ---- a question

pub printed_question : (season : Term) (flight : Flight) → FlightFits flight → IsRow season (81 ∷ flight_text flight) (question flight)
printed_question season flight fits =
    let text = flight_text flight in
    let long = flight_long flight fits in
    let cut : line_fields (81 ∷ text) ≡ (81 ∷ text) ∷ [] = fields_last (81 ∷ text) (omega arith, clean_flight flight fits) (omega arith) in (
      record { read = ap (λ (t : List ℕ). is_remark (81 ∷ t)) long.2; short = omega (arith, flight_few flight fits); kind = ap is_question cut },
      subst (λ (f : List (List ℕ)). IsQuestion f flight) (sym cut) ((refl, flight_named flight fits), refl),
    )
