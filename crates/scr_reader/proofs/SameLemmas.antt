-- Two lines that the same fields spell are the same.
use Rattle.std.proofs.Common.{◌≡◌, ◌≢◌, ℕ, true, List, [], ◌∷◌, Some, None, Ok, Result, refl, sym, ap, subst, ◌∙◌, arith}
use Rattle.schedule_text.specs.Days.{IsDays}
use Rattle.std.specs.Prelude.{Option, IsSome, IsSomeAnd, slice_get}
use Rattle.season_days.specs.Term.{Term}
use Rattle.season_days.specs.Seasons.{dates_of}
use Rattle.season_days.specs.declared.day.Day.{Day}
use Rattle.season_days.specs.declared.day.Period.{Period}
use Rattle.slot_text.specs.declared.station.Station.{Station}
use Rattle.scr_reader.specs.declared.line.Line.{Line}
use Rattle.scr_reader.specs.declared.line.Stop.{Stop}
use Rattle.scr_reader.specs.declared.line.Code.{Code}
use Rattle.scr_reader.specs.declared.line.Craft.{Craft}
use Rattle.scr_reader.specs.declared.line.Flight.{Flight}
use Rattle.scr_reader.specs.Bytes.{is_letter}
use Rattle.scr_reader.specs.Parts.{IsFlight, IsPeriod, IsSeats, IsArrivalGroup, IsDepartureGroup}
use Rattle.scr_reader.specs.Shapes.{arrival, departure, turnaround, parts_of, shape_of, IsLine, code_and_flight, code_alone, departing_flight, dates, weekdays, seats_and_craft, arrival_group, departure_group, departure_group_with_nights, arrival_service, departure_service, both_services, At, IsCodeAndFlight, IsCodeAlone, IsService, IsBothServices, IsLaterGroup}
use Rattle.scr_reader.proofs.AgreeLemmas.{said_in, shape_said}
use Rattle.scr_reader.proofs.DayLemmas.{same_day}
use Rattle.scr_reader.proofs.ShapeLemmas.{arriving, leaving, turning, stop_of}

same_line : (other : Line) (code : Code) (a d : Option Stop) (n : ℕ) (p : Period) (s : ℕ) (c : Craft) → code ≡ other.code → a ≡ other.arrival → d ≡ other.departure → n ≡ other.nights → p ≡ other.period → s ≡ other.seats → c.0 ≡ other.craft.0
    → record { code = code; arrival = a; departure = d; nights = n; period = p; seats = s; craft = c } ≡ other
same_line other code a d n p s c e1 e2 e3 e4 e5 e6 e7 =
    let craft : c ≡ other.craft = ap (λ (letters : List ℕ). let craft : Craft = record { 0 = letters } in craft) e7 in
    rw (e1, e2, e3, e4, e5, e6, craft) refl

same_stop : (other : Stop) (flight : Flight) (near : Station) (far : Option Station) (minute service : ℕ) → flight ≡ other.flight → near ≡ other.near → far ≡ other.far → minute ≡ other.minute → service ≡ other.service → stop_of flight near far minute service ≡ other
same_stop other flight near far minute service e1 e2 e3 e4 e5 = rw (e1, e2, e3, e4, e5) refl

pub some_stop : (a : Option Stop) → IsSome a → (stop : Stop) × (a ≡ Some stop)
some_stop None is = absurd cc
some_stop (Some stop) is = (stop, refl)

pub with_stop : (a : Option (List ℕ)) (b : Option Stop) (stop : Stop) (P : List ℕ → Stop → Type 0) → b ≡ Some stop → IsSomeAnd a (λ t. IsSomeAnd b (λ s. P t s)) → IsSomeAnd a (λ t. P t stop)
with_stop a b stop P e has = subst (λ (x : Option Stop). IsSomeAnd a (λ t. IsSomeAnd x (λ s. P t s))) e has

abbrev pub fine_two : {A B : Type 0} → A → B → Result (A × B) ℕ
fine_two a b = Ok (a, b)

abbrev pub fine_three : {A B C : Type 0} → A → B → C → Result (A × B × C) ℕ
fine_three a b c = Ok (a, b, c)

abbrev pub fine_four : {A B C D : Type 0} → A → B → C → D → Result (A × B × C × D) ℕ
fine_four a b c d = Ok (a, b, c, d)

abbrev pub fine : {A : Type 0} → A → Result A ℕ
fine x = Ok x

pub with_stops : (a : Option (List ℕ)) (b d : Option Stop) (stop out : Stop) (P : List ℕ → Stop → Stop → Type 0) → b ≡ Some stop → d ≡ Some out → IsSomeAnd a (λ t. IsSomeAnd b (λ s. IsSomeAnd d (λ o. P t s o))) → IsSomeAnd a (λ t. P t stop out)
with_stops a b d stop out P e f has =
    subst (λ (y : Option Stop). IsSomeAnd a (λ t. IsSomeAnd y (λ o. P t stop o))) f (subst (λ (x : Option Stop). IsSomeAnd a (λ t. IsSomeAnd x (λ s. IsSomeAnd d (λ o. P t s o)))) e has)

pub ok_same : {A : Type 0} (a b : A) → fine a ≡ Ok b → a ≡ b
ok_same a b e = cc

pub pair_same : {A B : Type 0} (a c : A) (b d : B) → fine_two a b ≡ Ok (c, d) → (a ≡ c) × (b ≡ d)
pair_same {A} {B} a c b d e =
    let whole = ok_same {A = A × B} (a, b) (c, d) e in
    (ap (λ (p : A × B). p.0) whole, ap (λ (p : A × B). p.1) whole)

pub triple_same : {A B C : Type 0} (a d : A) (b e : B) (c f : C) → fine_three a b c ≡ Ok (d, e, f) → (a ≡ d) × (b ≡ e) × (c ≡ f)
triple_same {A} {B} {C} a d b e c f same =
    let whole = ok_same {A = A × B × C} (a, b, c) (d, e, f) same in
    (ap (λ (p : A × B × C). p.0) whole, ap (λ (p : A × B × C). p.1) whole, ap (λ (p : A × B × C). p.2) whole)

pub four_same : {A B C D : Type 0} (a e : A) (b f : B) (c g : C) (d h : D) → fine_four a b c d ≡ Ok (e, f, g, h) → (a ≡ e) × (b ≡ f) × (c ≡ g) × (d ≡ h)
four_same {A} {B} {C} {D} a e b f c g d h same =
    let whole = ok_same {A = A × B × C × D} (a, b, c, d) (e, f, g, h) same in
    (ap (λ (p : A × B × C × D). p.0) whole, ap (λ (p : A × B × C × D). p.1) whole, ap (λ (p : A × B × C × D). p.2) whole, ap (λ (p : A × B × C × D). p.3) whole)

pub arrival_same : (season : Term) (fields : List (List ℕ)) (code : Code) (flight : Flight) (first last : Day) (period : Period) (seats : ℕ) (craft : Craft) (near : Station) (far : Option Station) (minute service : ℕ) (other : Line) → shape_of fields ≡ arrival → IsLine season fields other
    → ((code' : Code) (flight' : Flight) → At fields 1 (λ field. IsCodeAndFlight field code' flight') → fine_two code flight ≡ Ok (code', flight')) → ((f l : ℕ) → At fields 2 (λ field. IsPeriod season field f l) → (first.0 ≡ f) × (last.0 ≡ l)) → ((p : Period) → p.first ≡ first → p.last ≡ last → At fields 3 (λ field. IsDays field p.days × (dates_of season p ≢ [])) → fine period ≡ Ok p) → ((n : ℕ) (letters : List ℕ) → At fields 4 (λ field. IsSeats field n letters) → (seats ≡ n) × (craft.0 ≡ letters)) → ((near' : Station) (far' : Option Station) (minute' : ℕ) → At fields 5 (λ field. IsArrivalGroup field near' far' minute') → fine_three near far minute ≡ Ok (near', far', minute')) → ((x : ℕ) → At fields 6 (λ field. (is_letter x ≡ true) × (field ≡ x ∷ [])) → fine service ≡ Ok x)
    → arriving code (stop_of flight near far minute service) period seats craft ≡ other
arrival_same season fields code flight first last period seats craft near far minute service other shape whole o1 o2 o3 o4 o5 o6 =
    let both = shape_said season fields arrival other shape whole in
    let agree = both.1 in
    let stop = some_stop other.arrival both.0.0 in
    let e1 = pair_same _ _ _ _ (o1 other.code stop.0.flight (with_stop (slice_get fields 0) other.arrival stop.0 (λ text x. IsCodeAndFlight text other.code x.flight) stop.1 (said_in season other code_and_flight 0 6 (parts_of arrival) fields (omega arith) refl agree))) in
    let e2 = o2 other.period.first.0 other.period.last.0 (said_in season other dates 1 6 (parts_of arrival) fields (omega arith) refl agree) in
    let e3 = ok_same _ _ (o3 other.period (sym (same_day first other.period.first e2.0)) (sym (same_day last other.period.last e2.1)) (said_in season other weekdays 2 6 (parts_of arrival) fields (omega arith) refl agree)) in
    let e4 = o4 other.seats other.craft.0 (said_in season other seats_and_craft 3 6 (parts_of arrival) fields (omega arith) refl agree) in
    let e5 = triple_same _ _ _ _ _ _ (o5 stop.0.near stop.0.far stop.0.minute (with_stop (slice_get fields 4) other.arrival stop.0 (λ text x. IsArrivalGroup text x.near x.far x.minute) stop.1 (said_in season other arrival_group 4 6 (parts_of arrival) fields (omega arith) refl agree))) in
    let e6 = ok_same _ _ (o6 stop.0.service (with_stop (slice_get fields 5) other.arrival stop.0 (λ text x. IsService text x) stop.1 (said_in season other arrival_service 5 6 (parts_of arrival) fields (omega arith) refl agree))) in
    let same : stop_of flight near far minute service ≡ stop.0 = same_stop stop.0 flight near far minute service e1.1 e5.0 e5.1 e5.2 e6 in
    same_line other code (Some (stop_of flight near far minute service)) None 0 period seats craft e1.0 (ap (λ (x : Stop). Some x) same ∙ sym stop.1) (sym both.0.1) (sym both.0.2) e3 e4.0 e4.1

pub departure_same : (season : Term) (fields : List (List ℕ)) (code : Code) (flight : Flight) (first last : Day) (period : Period) (seats : ℕ) (craft : Craft) (near : Station) (far : Option Station) (minute service : ℕ) (other : Line) → shape_of fields ≡ departure → IsLine season fields other
    → ((code' : Code) → At fields 1 (λ field. IsCodeAlone field code') → fine code ≡ Ok code') → ((flight' : Flight) → At fields 2 (λ field. IsFlight field flight') → fine flight ≡ Ok flight') → ((f l : ℕ) → At fields 3 (λ field. IsPeriod season field f l) → (first.0 ≡ f) × (last.0 ≡ l)) → ((p : Period) → p.first ≡ first → p.last ≡ last → At fields 4 (λ field. IsDays field p.days × (dates_of season p ≢ [])) → fine period ≡ Ok p) → ((n : ℕ) (letters : List ℕ) → At fields 5 (λ field. IsSeats field n letters) → (seats ≡ n) × (craft.0 ≡ letters)) → ((near' : Station) (far' : Option Station) (minute' : ℕ) → At fields 6 (λ field. IsDepartureGroup field [] near' far' minute') → fine_three near far minute ≡ Ok (near', far', minute')) → ((x : ℕ) → At fields 7 (λ field. (is_letter x ≡ true) × (field ≡ x ∷ [])) → fine service ≡ Ok x)
    → leaving code (stop_of flight near far minute service) period seats craft ≡ other
departure_same season fields code flight first last period seats craft near far minute service other shape whole o1 o2 o3 o4 o5 o6 o7 =
    let both = shape_said season fields departure other shape whole in
    let agree = both.1 in
    let stop = some_stop other.departure both.0.1 in
    let e1 = ok_same _ _ (o1 other.code (said_in season other code_alone 0 7 (parts_of departure) fields (omega arith) refl agree)) in
    let e2 = ok_same _ _ (o2 stop.0.flight (with_stop (slice_get fields 1) other.departure stop.0 (λ text x. IsFlight text x.flight) stop.1 (said_in season other departing_flight 1 7 (parts_of departure) fields (omega arith) refl agree))) in
    let e3 = o3 other.period.first.0 other.period.last.0 (said_in season other dates 2 7 (parts_of departure) fields (omega arith) refl agree) in
    let e4 = ok_same _ _ (o4 other.period (sym (same_day first other.period.first e3.0)) (sym (same_day last other.period.last e3.1)) (said_in season other weekdays 3 7 (parts_of departure) fields (omega arith) refl agree)) in
    let e5 = o5 other.seats other.craft.0 (said_in season other seats_and_craft 4 7 (parts_of departure) fields (omega arith) refl agree) in
    let e6 = triple_same _ _ _ _ _ _ (o6 stop.0.near stop.0.far stop.0.minute (with_stop (slice_get fields 5) other.departure stop.0 (λ text x. IsDepartureGroup text [] x.near x.far x.minute) stop.1 (said_in season other departure_group 5 7 (parts_of departure) fields (omega arith) refl agree))) in
    let e7 = ok_same _ _ (o7 stop.0.service (with_stop (slice_get fields 6) other.departure stop.0 (λ text x. IsService text x) stop.1 (said_in season other departure_service 6 7 (parts_of departure) fields (omega arith) refl agree))) in
    let same : stop_of flight near far minute service ≡ stop.0 = same_stop stop.0 flight near far minute service e2 e6.0 e6.1 e6.2 e7 in
    same_line other code None (Some (stop_of flight near far minute service)) 0 period seats craft e1 (sym both.0.0) (ap (λ (x : Stop). Some x) same ∙ sym stop.1) (sym both.0.2) e4 e5.0 e5.1

pub turnaround_same : (season : Term) (fields : List (List ℕ)) (code : Code) (coming going : Flight) (first last : Day) (period : Period) (seats : ℕ) (craft : Craft) (near : Station) (far : Option Station) (minute : ℕ) (to : Station) (beyond : Option Station) (later nights service service' : ℕ) (other : Line) → shape_of fields ≡ turnaround → IsLine season fields other
    → ((code' : Code) (flight' : Flight) → At fields 1 (λ field. IsCodeAndFlight field code' flight') → fine_two code coming ≡ Ok (code', flight')) → ((flight' : Flight) → At fields 2 (λ field. IsFlight field flight') → fine going ≡ Ok flight') → ((f l : ℕ) → At fields 3 (λ field. IsPeriod season field f l) → (first.0 ≡ f) × (last.0 ≡ l)) → ((p : Period) → p.first ≡ first → p.last ≡ last → At fields 4 (λ field. IsDays field p.days × (dates_of season p ≢ [])) → fine period ≡ Ok p) → ((n : ℕ) (letters : List ℕ) → At fields 5 (λ field. IsSeats field n letters) → (seats ≡ n) × (craft.0 ≡ letters)) → ((near' : Station) (far' : Option Station) (minute' : ℕ) → At fields 6 (λ field. IsArrivalGroup field near' far' minute') → fine_three near far minute ≡ Ok (near', far', minute')) → ((near' : Station) (far' : Option Station) (minute' nights' : ℕ) → At fields 7 (λ field. IsLaterGroup field minute near' far' minute' nights') → fine_four to beyond later nights ≡ Ok (near', far', minute', nights')) → ((a d : ℕ) → At fields 8 (λ field. (is_letter a ≡ true) × (is_letter d ≡ true) × (field ≡ a ∷ d ∷ [])) → fine_two service service' ≡ Ok (a, d))
    → turning code (stop_of coming near far minute service) (stop_of going to beyond later service') nights period seats craft ≡ other
turnaround_same season fields code coming going first last period seats craft near far minute to beyond later nights service service' other shape whole o1 o2 o3 o4 o5 o6 o7 o8 =
    let both = shape_said season fields turnaround other shape whole in
    let agree = both.1 in
    let stop = some_stop other.arrival both.0.0 in
    let out = some_stop other.departure both.0.1 in
    let e1 = pair_same _ _ _ _ (o1 other.code stop.0.flight (with_stop (slice_get fields 0) other.arrival stop.0 (λ text x. IsCodeAndFlight text other.code x.flight) stop.1 (said_in season other code_and_flight 0 8 (parts_of turnaround) fields (omega arith) refl agree))) in
    let e2 = ok_same _ _ (o2 out.0.flight (with_stop (slice_get fields 1) other.departure out.0 (λ text x. IsFlight text x.flight) out.1 (said_in season other departing_flight 1 8 (parts_of turnaround) fields (omega arith) refl agree))) in
    let e3 = o3 other.period.first.0 other.period.last.0 (said_in season other dates 2 8 (parts_of turnaround) fields (omega arith) refl agree) in
    let e4 = ok_same _ _ (o4 other.period (sym (same_day first other.period.first e3.0)) (sym (same_day last other.period.last e3.1)) (said_in season other weekdays 3 8 (parts_of turnaround) fields (omega arith) refl agree)) in
    let e5 = o5 other.seats other.craft.0 (said_in season other seats_and_craft 4 8 (parts_of turnaround) fields (omega arith) refl agree) in
    let e6 = triple_same _ _ _ _ _ _ (o6 stop.0.near stop.0.far stop.0.minute (with_stop (slice_get fields 5) other.arrival stop.0 (λ text x. IsArrivalGroup text x.near x.far x.minute) stop.1 (said_in season other arrival_group 5 8 (parts_of turnaround) fields (omega arith) refl agree))) in
    let l7 = with_stops (slice_get fields 6) other.arrival other.departure stop.0 out.0 (λ text x y. IsLaterGroup text x.minute y.near y.far y.minute other.nights) stop.1 out.1 (said_in season other departure_group_with_nights 6 8 (parts_of turnaround) fields (omega arith) refl agree) in
    let e7 = four_same _ _ _ _ _ _ _ _ (o7 out.0.near out.0.far out.0.minute other.nights (subst (λ (m : ℕ). At fields 7 (λ field. IsLaterGroup field m out.0.near out.0.far out.0.minute other.nights)) (sym e6.2) l7)) in
    let e8 = pair_same _ _ _ _ (o8 stop.0.service out.0.service (with_stops (slice_get fields 7) other.arrival other.departure stop.0 out.0 (λ text x y. IsBothServices text x y) stop.1 out.1 (said_in season other both_services 7 8 (parts_of turnaround) fields (omega arith) refl agree))) in
    let same : stop_of coming near far minute service ≡ stop.0 = same_stop stop.0 coming near far minute service e1.1 e6.0 e6.1 e6.2 e8.0 in
    let same' : stop_of going to beyond later service' ≡ out.0 = same_stop out.0 going to beyond later service' e2 e7.0 e7.1 e7.2 e8.1 in
    same_line other code (Some (stop_of coming near far minute service)) (Some (stop_of going to beyond later service')) nights period seats craft e1.0 (ap (λ (x : Stop). Some x) same ∙ sym stop.1) (ap (λ (x : Stop). Some x) same' ∙ sym out.1) e7.3 e4 e5.0 e5.1
