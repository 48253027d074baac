-- A field that has not its form, for each kind of field.
use Rattle.std.proofs.Common.{◌≡◌, ℕ, suc, true, List, [], ◌∷◌, take, Some, None, refl, sym, arith, subst}
use Rattle.schedule_text.specs.Days.{IsDays}
use Rattle.std.specs.Prelude.{Option, ◌≢◌, slice_get, IsSomeAnd}
use Rattle.season_days.specs.Term.{Term}
use Rattle.season_days.specs.Seasons.{dates_of}
use Rattle.season_days.specs.declared.day.Day.{Day}
use Rattle.season_days.specs.declared.day.Period.{Period}
use Rattle.slot_text.specs.declared.station.Station.{Station}
use Rattle.scr_reader.specs.declared.line.Line.{Line}
use Rattle.scr_reader.specs.declared.line.Stop.{Stop}
use Rattle.scr_reader.specs.declared.line.Code.{Code}
use Rattle.scr_reader.specs.declared.line.Flight.{Flight}
use Rattle.scr_reader.specs.Bytes.{is_letter}
use Rattle.scr_reader.specs.Parts.{IsFlight, IsPeriod, IsSeats, IsArrivalGroup, IsDepartureGroup}
use Rattle.scr_reader.specs.Shapes.{Shape, parts_of, shape_of, code_and_flight, code_alone, departing_flight, dates, weekdays, seats_and_craft, arrival_group, departure_group, departure_group_with_nights, arrival_service, departure_service, both_services, Agree, At, IsFaultyField, IsCodeAndFlight, IsCodeAlone, IsService, IsBothServices, IsLaterGroup, HasShape}
use Rattle.scr_reader.proofs.AgreeLemmas.{said_in, faulty}
use Rattle.scr_reader.proofs.DayLemmas.{same_day}

pub both_some : {A B : Type 0} (a : Option A) (b : Option B) (P : A → B → Type 0) → IsSomeAnd a (λ x. IsSomeAnd b (λ y. P x y)) → (y : B) × (b ≡ Some y) × IsSomeAnd a (λ x. P x y)
both_some None b P p = absurd p
both_some (Some x) None P p = absurd p
both_some (Some x) (Some y) P p = (y, refl, p)

pub no_code_and_flight : (season : Term) (fields : List (List ℕ)) (shape : Shape) (k : ℕ) (good : Line) → shape_of fields ≡ shape → HasShape shape good → slice_get (parts_of shape) k ≡ Some code_and_flight → Agree season (take k (parts_of shape)) fields good
    → ((code : Code) (flight : Flight) → At fields (suc k) (λ field. IsCodeAndFlight field code flight) → ⊥) → IsFaultyField season fields (suc k)
no_code_and_flight season fields shape k good is has part agree refused =
    faulty season fields shape k good is has agree (λ line has_shape said.
    let here = said_in season line code_and_flight k (suc k) (parts_of shape) fields (omega arith) part said in
    let stop = both_some (slice_get fields k) line.arrival (λ text stop. IsCodeAndFlight text line.code stop.flight) here in refused line.code stop.0.flight stop.2)

pub no_code : (season : Term) (fields : List (List ℕ)) (shape : Shape) (k : ℕ) (good : Line) → shape_of fields ≡ shape → HasShape shape good → slice_get (parts_of shape) k ≡ Some code_alone → Agree season (take k (parts_of shape)) fields good
    → ((code : Code) → At fields (suc k) (λ field. IsCodeAlone field code) → ⊥) → IsFaultyField season fields (suc k)
no_code season fields shape k good is has part agree refused =
    faulty season fields shape k good is has agree (λ line has_shape said.
    let here = said_in season line code_alone k (suc k) (parts_of shape) fields (omega arith) part said in
    refused line.code here)

pub no_flight : (season : Term) (fields : List (List ℕ)) (shape : Shape) (k : ℕ) (good : Line) → shape_of fields ≡ shape → HasShape shape good → slice_get (parts_of shape) k ≡ Some departing_flight → Agree season (take k (parts_of shape)) fields good
    → ((flight : Flight) → At fields (suc k) (λ field. IsFlight field flight) → ⊥) → IsFaultyField season fields (suc k)
no_flight season fields shape k good is has part agree refused =
    faulty season fields shape k good is has agree (λ line has_shape said.
    let here = said_in season line departing_flight k (suc k) (parts_of shape) fields (omega arith) part said in
    let stop = both_some (slice_get fields k) line.departure (λ text stop. IsFlight text stop.flight) here in refused stop.0.flight stop.2)

pub no_dates : (season : Term) (fields : List (List ℕ)) (shape : Shape) (k : ℕ) (good : Line) → shape_of fields ≡ shape → HasShape shape good → slice_get (parts_of shape) k ≡ Some dates → Agree season (take k (parts_of shape)) fields good
    → ((first last : ℕ) → At fields (suc k) (λ field. IsPeriod season field first last) → ⊥) → IsFaultyField season fields (suc k)
no_dates season fields shape k good is has part agree refused =
    faulty season fields shape k good is has agree (λ line has_shape said.
    let here = said_in season line dates k (suc k) (parts_of shape) fields (omega arith) part said in
    refused line.period.first.0 line.period.last.0 here)

pub no_seats : (season : Term) (fields : List (List ℕ)) (shape : Shape) (k : ℕ) (good : Line) → shape_of fields ≡ shape → HasShape shape good → slice_get (parts_of shape) k ≡ Some seats_and_craft → Agree season (take k (parts_of shape)) fields good
    → ((seats : ℕ) (craft : List ℕ) → At fields (suc k) (λ field. IsSeats field seats craft) → ⊥) → IsFaultyField season fields (suc k)
no_seats season fields shape k good is has part agree refused =
    faulty season fields shape k good is has agree (λ line has_shape said.
    let here = said_in season line seats_and_craft k (suc k) (parts_of shape) fields (omega arith) part said in
    refused line.seats line.craft.0 here)

pub no_arrival_group : (season : Term) (fields : List (List ℕ)) (shape : Shape) (k : ℕ) (good : Line) → shape_of fields ≡ shape → HasShape shape good → slice_get (parts_of shape) k ≡ Some arrival_group → Agree season (take k (parts_of shape)) fields good
    → ((near : Station) (far : Option Station) (minute : ℕ) → At fields (suc k) (λ field. IsArrivalGroup field near far minute) → ⊥) → IsFaultyField season fields (suc k)
no_arrival_group season fields shape k good is has part agree refused =
    faulty season fields shape k good is has agree (λ line has_shape said.
    let here = said_in season line arrival_group k (suc k) (parts_of shape) fields (omega arith) part said in
    let stop = both_some (slice_get fields k) line.arrival (λ text stop. IsArrivalGroup text stop.near stop.far stop.minute) here in refused stop.0.near stop.0.far stop.0.minute stop.2)

pub no_departure_group : (season : Term) (fields : List (List ℕ)) (shape : Shape) (k : ℕ) (good : Line) → shape_of fields ≡ shape → HasShape shape good → slice_get (parts_of shape) k ≡ Some departure_group → Agree season (take k (parts_of shape)) fields good
    → ((near : Station) (far : Option Station) (minute : ℕ) → At fields (suc k) (λ field. IsDepartureGroup field [] near far minute) → ⊥) → IsFaultyField season fields (suc k)
no_departure_group season fields shape k good is has part agree refused =
    faulty season fields shape k good is has agree (λ line has_shape said.
    let here = said_in season line departure_group k (suc k) (parts_of shape) fields (omega arith) part said in
    let stop = both_some (slice_get fields k) line.departure (λ text stop. IsDepartureGroup text [] stop.near stop.far stop.minute) here in refused stop.0.near stop.0.far stop.0.minute stop.2)

pub no_arrival_service : (season : Term) (fields : List (List ℕ)) (shape : Shape) (k : ℕ) (good : Line) → shape_of fields ≡ shape → HasShape shape good → slice_get (parts_of shape) k ≡ Some arrival_service → Agree season (take k (parts_of shape)) fields good
    → ((x : ℕ) → At fields (suc k) (λ field. (is_letter x ≡ true) × (field ≡ x ∷ [])) → ⊥) → IsFaultyField season fields (suc k)
no_arrival_service season fields shape k good is has part agree refused =
    faulty season fields shape k good is has agree (λ line has_shape said.
    let here = said_in season line arrival_service k (suc k) (parts_of shape) fields (omega arith) part said in
    let stop = both_some (slice_get fields k) line.arrival (λ text stop. IsService text stop) here in refused stop.0.service stop.2)

pub no_departure_service : (season : Term) (fields : List (List ℕ)) (shape : Shape) (k : ℕ) (good : Line) → shape_of fields ≡ shape → HasShape shape good → slice_get (parts_of shape) k ≡ Some departure_service → Agree season (take k (parts_of shape)) fields good
    → ((x : ℕ) → At fields (suc k) (λ field. (is_letter x ≡ true) × (field ≡ x ∷ [])) → ⊥) → IsFaultyField season fields (suc k)
no_departure_service season fields shape k good is has part agree refused =
    faulty season fields shape k good is has agree (λ line has_shape said.
    let here = said_in season line departure_service k (suc k) (parts_of shape) fields (omega arith) part said in
    let stop = both_some (slice_get fields k) line.departure (λ text stop. IsService text stop) here in refused stop.0.service stop.2)

two_some : {A B C : Type 0} (a : Option A) (b : Option B) (c : Option C) (P : A → B → C → Type 0) → IsSomeAnd a (λ x. IsSomeAnd b (λ y. IsSomeAnd c (λ z. P x y z))) → (y : B) × (z : C) × (b ≡ Some y) × (c ≡ Some z) × IsSomeAnd a (λ x. P x y z)
two_some None b c P p = absurd p
two_some (Some x) None c P p = absurd p
two_some (Some x) (Some y) None P p = absurd p
two_some (Some x) (Some y) (Some z) P p = (y, z, refl, refl, p)

pub no_services : (season : Term) (fields : List (List ℕ)) (shape : Shape) (k : ℕ) (good : Line) → shape_of fields ≡ shape → HasShape shape good → slice_get (parts_of shape) k ≡ Some both_services → Agree season (take k (parts_of shape)) fields good
    → ((a d : ℕ) → At fields (suc k) (λ field. (is_letter a ≡ true) × (is_letter d ≡ true) × (field ≡ a ∷ d ∷ [])) → ⊥) → IsFaultyField season fields (suc k)
no_services season fields shape k good is has part agree refused =
    faulty season fields shape k good is has agree (λ line has_shape said.
    let here = said_in season line both_services k (suc k) (parts_of shape) fields (omega arith) part said in
    let stops = two_some (slice_get fields k) line.arrival line.departure (λ text coming going. IsBothServices text coming going) here in refused stops.0.service stops.1.service stops.4)

pub no_weekdays : (season : Term) (fields : List (List ℕ)) (shape : Shape) (k : ℕ) (good : Line) (first last : Day) → shape_of fields ≡ shape → HasShape shape good → slice_get (parts_of shape) k ≡ Some dates → slice_get (parts_of shape) (suc k) ≡ Some weekdays
    → Agree season (take (suc k) (parts_of shape)) fields good → ((f l : ℕ) → At fields (suc k) (λ field. IsPeriod season field f l) → (first.0 ≡ f) × (last.0 ≡ l))
    → ((p : Period) → p.first ≡ first → p.last ≡ last → At fields (suc (suc k)) (λ field. IsDays field p.days × (dates_of season p ≢ [])) → ⊥) → IsFaultyField season fields (suc (suc k))
no_weekdays season fields shape k good first last is has before part agree same refused =
    faulty season fields shape (suc k) good is has agree (λ line has_shape said.
    let named = said_in season line dates k (suc (suc k)) (parts_of shape) fields (omega arith) before said in
    let here = said_in season line weekdays (suc k) (suc (suc k)) (parts_of shape) fields (omega arith) part said in
    let days = same line.period.first.0 line.period.last.0 named in
    refused line.period (sym (same_day first line.period.first days.0)) (sym (same_day last line.period.last days.1)) here)

pub no_later_group : (season : Term) (fields : List (List ℕ)) (shape : Shape) (k : ℕ) (good : Line) (earliest : ℕ) → shape_of fields ≡ shape → HasShape shape good → slice_get (parts_of shape) k ≡ Some arrival_group → slice_get (parts_of shape) (suc k) ≡ Some departure_group_with_nights
    → Agree season (take (suc k) (parts_of shape)) fields good → ((near : Station) (far : Option Station) (minute : ℕ) → At fields (suc k) (λ field. IsArrivalGroup field near far minute) → earliest ≡ minute)
    → ((near : Station) (far : Option Station) (minute nights : ℕ) → At fields (suc (suc k)) (λ field. IsLaterGroup field earliest near far minute nights) → ⊥) → IsFaultyField season fields (suc (suc k))
no_later_group season fields shape k good earliest is has before part agree same refused =
    faulty season fields shape (suc k) good is has agree (λ line has_shape said.
    let named = said_in season line arrival_group k (suc (suc k)) (parts_of shape) fields (omega arith) before said in
    let here = said_in season line departure_group_with_nights (suc k) (suc (suc k)) (parts_of shape) fields (omega arith) part said in
    let stops = two_some (slice_get fields (suc k)) line.arrival line.departure (λ text coming going. IsLaterGroup text coming.minute going.near going.far going.minute line.nights) here in
    let arriving : IsSomeAnd (slice_get fields k) (λ text. IsSomeAnd (Some stops.0) (λ stop. IsArrivalGroup text stop.near stop.far stop.minute)) =
    subst (λ (a : Option Stop). IsSomeAnd (slice_get fields k) (λ text. IsSomeAnd a (λ stop. IsArrivalGroup text stop.near stop.far stop.minute))) stops.2 named in
    let minute : earliest ≡ stops.0.minute = same stops.0.near stops.0.far stops.0.minute arriving in
    refused stops.1.near stops.1.far stops.1.minute line.nights (subst (λ (m : ℕ). At fields (suc (suc k)) (λ field. IsLaterGroup field m stops.1.near stops.1.far stops.1.minute line.nights)) (sym minute) stops.4))
