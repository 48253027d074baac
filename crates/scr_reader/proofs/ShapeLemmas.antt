-- What good fields say about a line, and dummy values for what isn't read yet.
use Rattle.std.proofs.Common.{◌≡◌, ℕ, List, [], take, Some, None, refl}
use Rattle.std.specs.Prelude.{Option, IsSomeAnd, slice_get}
use Rattle.season_days.specs.Term.{Term}
use Rattle.season_days.specs.declared.day.Day.{Day}
use Rattle.season_days.specs.declared.day.Period.{Period}
use Rattle.scr_reader.specs.Parts.{IsPeriod}
use Rattle.slot_text.specs.declared.station.Station.{Station}
use Rattle.scr_reader.specs.declared.line.Line.{Line}
use Rattle.scr_reader.specs.declared.line.Stop.{Stop}
use Rattle.scr_reader.specs.declared.line.Code.{Code}
use Rattle.scr_reader.specs.declared.line.Craft.{Craft}
use Rattle.scr_reader.specs.declared.line.Flight.{Flight}
use Rattle.scr_reader.specs.Shapes.{arrival, departure, turnaround, parts_of, code_and_flight, code_alone, departing_flight, dates, weekdays, seats_and_craft, arrival_group, departure_group, departure_group_with_nights, arrival_service, departure_service, both_services, Says, Agree}
use Rattle.scr_reader.proofs.AgreeLemmas.{agree_more}

abbrev pub arriving : Code → Stop → Period → ℕ → Craft → Line
arriving code stop period seats craft = record { code = code; arrival = Some stop; departure = None; nights = 0; period = period; seats = seats; craft = craft }

abbrev pub leaving : Code → Stop → Period → ℕ → Craft → Line
leaving code stop period seats craft = record { code = code; arrival = None; departure = Some stop; nights = 0; period = period; seats = seats; craft = craft }

abbrev pub turning : Code → Stop → Stop → ℕ → Period → ℕ → Craft → Line
turning code coming going nights period seats craft = record { code = code; arrival = Some coming; departure = Some going; nights = nights; period = period; seats = seats; craft = craft }

abbrev pub stop_of : Flight → Station → Option Station → ℕ → ℕ → Stop
stop_of flight near far minute service = record { flight = flight; minute = minute; near = near; far = far; service = service }

abbrev pub no_station : Station
no_station = record { 0 = [] }

abbrev pub no_period : Period
no_period = record { first = record { 0 = 0 }; last = record { 0 = 0 }; days = 0 }

abbrev pub no_flight_yet : Flight
no_flight_yet = record { airline = []; number = 0; suffix = 0 }

-- the dates of a period, whose first and last day are those
pub dates_moved : (season : Term) (fields : List (List ℕ)) (k : ℕ) (first last : Day) (p : Period) → IsSomeAnd (slice_get fields k) (λ text. IsPeriod season text first.0 last.0) → p.first ≡ first → p.last ≡ last
    → IsSomeAnd (slice_get fields k) (λ text. IsPeriod season text p.first.0 p.last.0)
dates_moved season fields k first last p is f l = rw (f, l) is

abbrev pub no_craft : Craft
no_craft = record { 0 = [] }

pub arrival_1 : (season : Term) (fields : List (List ℕ)) (line : Line) → IsSomeAnd (slice_get fields 0) (λ text. Says season code_and_flight text line)
    → Agree season (take 1 (parts_of arrival)) fields line
arrival_1 season fields line s1 = agree_more season line code_and_flight 0 (parts_of arrival) fields refl tt s1

pub arrival_2 : (season : Term) (fields : List (List ℕ)) (line : Line) → IsSomeAnd (slice_get fields 0) (λ text. Says season code_and_flight text line) → IsSomeAnd (slice_get fields 1) (λ text. Says season dates text line)
    → Agree season (take 2 (parts_of arrival)) fields line
arrival_2 season fields line s1 s2 = agree_more season line dates 1 (parts_of arrival) fields refl (arrival_1 season fields line s1) s2

pub arrival_3 : (season : Term) (fields : List (List ℕ)) (line : Line) → IsSomeAnd (slice_get fields 0) (λ text. Says season code_and_flight text line) → IsSomeAnd (slice_get fields 1) (λ text. Says season dates text line) → IsSomeAnd (slice_get fields 2) (λ text. Says season weekdays text line)
    → Agree season (take 3 (parts_of arrival)) fields line
arrival_3 season fields line s1 s2 s3 = agree_more season line weekdays 2 (parts_of arrival) fields refl (arrival_2 season fields line s1 s2) s3

pub arrival_4 : (season : Term) (fields : List (List ℕ)) (line : Line) → IsSomeAnd (slice_get fields 0) (λ text. Says season code_and_flight text line) → IsSomeAnd (slice_get fields 1) (λ text. Says season dates text line) → IsSomeAnd (slice_get fields 2) (λ text. Says season weekdays text line) → IsSomeAnd (slice_get fields 3) (λ text. Says season seats_and_craft text line)
    → Agree season (take 4 (parts_of arrival)) fields line
arrival_4 season fields line s1 s2 s3 s4 = agree_more season line seats_and_craft 3 (parts_of arrival) fields refl (arrival_3 season fields line s1 s2 s3) s4

pub arrival_5 : (season : Term) (fields : List (List ℕ)) (line : Line) → IsSomeAnd (slice_get fields 0) (λ text. Says season code_and_flight text line) → IsSomeAnd (slice_get fields 1) (λ text. Says season dates text line) → IsSomeAnd (slice_get fields 2) (λ text. Says season weekdays text line) → IsSomeAnd (slice_get fields 3) (λ text. Says season seats_and_craft text line) → IsSomeAnd (slice_get fields 4) (λ text. Says season arrival_group text line)
    → Agree season (take 5 (parts_of arrival)) fields line
arrival_5 season fields line s1 s2 s3 s4 s5 = agree_more season line arrival_group 4 (parts_of arrival) fields refl (arrival_4 season fields line s1 s2 s3 s4) s5

pub arrival_6 : (season : Term) (fields : List (List ℕ)) (line : Line) → IsSomeAnd (slice_get fields 0) (λ text. Says season code_and_flight text line) → IsSomeAnd (slice_get fields 1) (λ text. Says season dates text line) → IsSomeAnd (slice_get fields 2) (λ text. Says season weekdays text line) → IsSomeAnd (slice_get fields 3) (λ text. Says season seats_and_craft text line) → IsSomeAnd (slice_get fields 4) (λ text. Says season arrival_group text line) → IsSomeAnd (slice_get fields 5) (λ text. Says season arrival_service text line)
    → Agree season (take 6 (parts_of arrival)) fields line
arrival_6 season fields line s1 s2 s3 s4 s5 s6 = agree_more season line arrival_service 5 (parts_of arrival) fields refl (arrival_5 season fields line s1 s2 s3 s4 s5) s6

pub departure_1 : (season : Term) (fields : List (List ℕ)) (line : Line) → IsSomeAnd (slice_get fields 0) (λ text. Says season code_alone text line)
    → Agree season (take 1 (parts_of departure)) fields line
departure_1 season fields line s1 = agree_more season line code_alone 0 (parts_of departure) fields refl tt s1

pub departure_2 : (season : Term) (fields : List (List ℕ)) (line : Line) → IsSomeAnd (slice_get fields 0) (λ text. Says season code_alone text line) → IsSomeAnd (slice_get fields 1) (λ text. Says season departing_flight text line)
    → Agree season (take 2 (parts_of departure)) fields line
departure_2 season fields line s1 s2 = agree_more season line departing_flight 1 (parts_of departure) fields refl (departure_1 season fields line s1) s2

pub departure_3 : (season : Term) (fields : List (List ℕ)) (line : Line) → IsSomeAnd (slice_get fields 0) (λ text. Says season code_alone text line) → IsSomeAnd (slice_get fields 1) (λ text. Says season departing_flight text line) → IsSomeAnd (slice_get fields 2) (λ text. Says season dates text line)
    → Agree season (take 3 (parts_of departure)) fields line
departure_3 season fields line s1 s2 s3 = agree_more season line dates 2 (parts_of departure) fields refl (departure_2 season fields line s1 s2) s3

pub departure_4 : (season : Term) (fields : List (List ℕ)) (line : Line) → IsSomeAnd (slice_get fields 0) (λ text. Says season code_alone text line) → IsSomeAnd (slice_get fields 1) (λ text. Says season departing_flight text line) → IsSomeAnd (slice_get fields 2) (λ text. Says season dates text line) → IsSomeAnd (slice_get fields 3) (λ text. Says season weekdays text line)
    → Agree season (take 4 (parts_of departure)) fields line
departure_4 season fields line s1 s2 s3 s4 = agree_more season line weekdays 3 (parts_of departure) fields refl (departure_3 season fields line s1 s2 s3) s4

pub departure_5 : (season : Term) (fields : List (List ℕ)) (line : Line) → IsSomeAnd (slice_get fields 0) (λ text. Says season code_alone text line) → IsSomeAnd (slice_get fields 1) (λ text. Says season departing_flight text line) → IsSomeAnd (slice_get fields 2) (λ text. Says season dates text line) → IsSomeAnd (slice_get fields 3) (λ text. Says season weekdays text line) → IsSomeAnd (slice_get fields 4) (λ text. Says season seats_and_craft text line)
    → Agree season (take 5 (parts_of departure)) fields line
departure_5 season fields line s1 s2 s3 s4 s5 = agree_more season line seats_and_craft 4 (parts_of departure) fields refl (departure_4 season fields line s1 s2 s3 s4) s5

pub departure_6 : (season : Term) (fields : List (List ℕ)) (line : Line) → IsSomeAnd (slice_get fields 0) (λ text. Says season code_alone text line) → IsSomeAnd (slice_get fields 1) (λ text. Says season departing_flight text line) → IsSomeAnd (slice_get fields 2) (λ text. Says season dates text line) → IsSomeAnd (slice_get fields 3) (λ text. Says season weekdays text line) → IsSomeAnd (slice_get fields 4) (λ text. Says season seats_and_craft text line) → IsSomeAnd (slice_get fields 5) (λ text. Says season departure_group text line)
    → Agree season (take 6 (parts_of departure)) fields line
departure_6 season fields line s1 s2 s3 s4 s5 s6 = agree_more season line departure_group 5 (parts_of departure) fields refl (departure_5 season fields line s1 s2 s3 s4 s5) s6

pub departure_7 : (season : Term) (fields : List (List ℕ)) (line : Line) → IsSomeAnd (slice_get fields 0) (λ text. Says season code_alone text line) → IsSomeAnd (slice_get fields 1) (λ text. Says season departing_flight text line) → IsSomeAnd (slice_get fields 2) (λ text. Says season dates text line) → IsSomeAnd (slice_get fields 3) (λ text. Says season weekdays text line) → IsSomeAnd (slice_get fields 4) (λ text. Says season seats_and_craft text line) → IsSomeAnd (slice_get fields 5) (λ text. Says season departure_group text line) → IsSomeAnd (slice_get fields 6) (λ text. Says season departure_service text line)
    → Agree season (take 7 (parts_of departure)) fields line
departure_7 season fields line s1 s2 s3 s4 s5 s6 s7 = agree_more season line departure_service 6 (parts_of departure) fields refl (departure_6 season fields line s1 s2 s3 s4 s5 s6) s7

pub turnaround_1 : (season : Term) (fields : List (List ℕ)) (line : Line) → IsSomeAnd (slice_get fields 0) (λ text. Says season code_and_flight text line)
    → Agree season (take 1 (parts_of turnaround)) fields line
turnaround_1 season fields line s1 = agree_more season line code_and_flight 0 (parts_of turnaround) fields refl tt s1

pub turnaround_2 : (season : Term) (fields : List (List ℕ)) (line : Line) → IsSomeAnd (slice_get fields 0) (λ text. Says season code_and_flight text line) → IsSomeAnd (slice_get fields 1) (λ text. Says season departing_flight text line)
    → Agree season (take 2 (parts_of turnaround)) fields line
turnaround_2 season fields line s1 s2 = agree_more season line departing_flight 1 (parts_of turnaround) fields refl (turnaround_1 season fields line s1) s2

pub turnaround_3 : (season : Term) (fields : List (List ℕ)) (line : Line) → IsSomeAnd (slice_get fields 0) (λ text. Says season code_and_flight text line) → IsSomeAnd (slice_get fields 1) (λ text. Says season departing_flight text line) → IsSomeAnd (slice_get fields 2) (λ text. Says season dates text line)
    → Agree season (take 3 (parts_of turnaround)) fields line
turnaround_3 season fields line s1 s2 s3 = agree_more season line dates 2 (parts_of turnaround) fields refl (turnaround_2 season fields line s1 s2) s3

pub turnaround_4 : (season : Term) (fields : List (List ℕ)) (line : Line) → IsSomeAnd (slice_get fields 0) (λ text. Says season code_and_flight text line) → IsSomeAnd (slice_get fields 1) (λ text. Says season departing_flight text line) → IsSomeAnd (slice_get fields 2) (λ text. Says season dates text line) → IsSomeAnd (slice_get fields 3) (λ text. Says season weekdays text line)
    → Agree season (take 4 (parts_of turnaround)) fields line
turnaround_4 season fields line s1 s2 s3 s4 = agree_more season line weekdays 3 (parts_of turnaround) fields refl (turnaround_3 season fields line s1 s2 s3) s4

pub turnaround_5 : (season : Term) (fields : List (List ℕ)) (line : Line) → IsSomeAnd (slice_get fields 0) (λ text. Says season code_and_flight text line) → IsSomeAnd (slice_get fields 1) (λ text. Says season departing_flight text line) → IsSomeAnd (slice_get fields 2) (λ text. Says season dates text line) → IsSomeAnd (slice_get fields 3) (λ text. Says season weekdays text line) → IsSomeAnd (slice_get fields 4) (λ text. Says season seats_and_craft text line)
    → Agree season (take 5 (parts_of turnaround)) fields line
turnaround_5 season fields line s1 s2 s3 s4 s5 = agree_more season line seats_and_craft 4 (parts_of turnaround) fields refl (turnaround_4 season fields line s1 s2 s3 s4) s5

pub turnaround_6 : (season : Term) (fields : List (List ℕ)) (line : Line) → IsSomeAnd (slice_get fields 0) (λ text. Says season code_and_flight text line) → IsSomeAnd (slice_get fields 1) (λ text. Says season departing_flight text line) → IsSomeAnd (slice_get fields 2) (λ text. Says season dates text line) → IsSomeAnd (slice_get fields 3) (λ text. Says season weekdays text line) → IsSomeAnd (slice_get fields 4) (λ text. Says season seats_and_craft text line) → IsSomeAnd (slice_get fields 5) (λ text. Says season arrival_group text line)
    → Agree season (take 6 (parts_of turnaround)) fields line
turnaround_6 season fields line s1 s2 s3 s4 s5 s6 = agree_more season line arrival_group 5 (parts_of turnaround) fields refl (turnaround_5 season fields line s1 s2 s3 s4 s5) s6

pub turnaround_7 : (season : Term) (fields : List (List ℕ)) (line : Line) → IsSomeAnd (slice_get fields 0) (λ text. Says season code_and_flight text line) → IsSomeAnd (slice_get fields 1) (λ text. Says season departing_flight text line) → IsSomeAnd (slice_get fields 2) (λ text. Says season dates text line) → IsSomeAnd (slice_get fields 3) (λ text. Says season weekdays text line) → IsSomeAnd (slice_get fields 4) (λ text. Says season seats_and_craft text line) → IsSomeAnd (slice_get fields 5) (λ text. Says season arrival_group text line) → IsSomeAnd (slice_get fields 6) (λ text. Says season departure_group_with_nights text line)
    → Agree season (take 7 (parts_of turnaround)) fields line
turnaround_7 season fields line s1 s2 s3 s4 s5 s6 s7 = agree_more season line departure_group_with_nights 6 (parts_of turnaround) fields refl (turnaround_6 season fields line s1 s2 s3 s4 s5 s6) s7

pub turnaround_8 : (season : Term) (fields : List (List ℕ)) (line : Line) → IsSomeAnd (slice_get fields 0) (λ text. Says season code_and_flight text line) → IsSomeAnd (slice_get fields 1) (λ text. Says season departing_flight text line) → IsSomeAnd (slice_get fields 2) (λ text. Says season dates text line) → IsSomeAnd (slice_get fields 3) (λ text. Says season weekdays text line) → IsSomeAnd (slice_get fields 4) (λ text. Says season seats_and_craft text line) → IsSomeAnd (slice_get fields 5) (λ text. Says season arrival_group text line) → IsSomeAnd (slice_get fields 6) (λ text. Says season departure_group_with_nights text line) → IsSomeAnd (slice_get fields 7) (λ text. Says season both_services text line)
    → Agree season (take 8 (parts_of turnaround)) fields line
turnaround_8 season fields line s1 s2 s3 s4 s5 s6 s7 s8 = agree_more season line both_services 7 (parts_of turnaround) fields refl (turnaround_7 season fields line s1 s2 s3 s4 s5 s6 s7) s8
