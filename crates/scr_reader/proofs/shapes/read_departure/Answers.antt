use Rattle.std.proofs.Common.{None, refl, rules}
use Rattle.scr_reader.specs.declared.line.Code.TheVariants.{N}
use Rattle.scr_reader.specs.Shapes.{IsFaultyField, departure, departure_service}
use Rattle.scr_reader.proofs.AgreeLemmas.{too_many, whole_line}
use Rattle.scr_reader.proofs.FaultLemmas.{no_code, no_flight, no_dates, no_weekdays, no_seats, no_departure_group, no_departure_service}
use Rattle.scr_reader.proofs.ShapeLemmas.{leaving, stop_of, no_station, no_craft, no_period, no_flight_yet, dates_moved, departure_1, departure_2, departure_3, departure_4, departure_5, departure_6, departure_7}
use Rattle.scr_reader.proofs.SameLemmas.{departure_same}
use Rattle.scr_reader.proofs.shapes.read_departure.Goals as goal

pub returns-in_err-code-clause-fault : goal.returns-in_err-code-clause-fault
returns-in_err-code-clause-fault c =
    let season = c.args.season.now in
    let fields = c.args.fields.now in
    let good = leaving N (stop_of no_flight_yet no_station None 0 0) no_period 0 no_craft in
    let bad : IsFaultyField season fields 1 = no_code season fields departure 0 good c.requires (refl, refl, refl) refl tt (λ code is. let e = c.in_err-code.ensures.only code is in cc) in
    search rules

pub returns-in_err-flight-clause-fault : goal.returns-in_err-flight-clause-fault
returns-in_err-flight-clause-fault c =
    let season = c.args.season.now in
    let fields = c.args.fields.now in
    let good = leaving c.in_ok-code.code (stop_of no_flight_yet no_station None 0 0) no_period 0 no_craft in
    let bad : IsFaultyField season fields 2 = no_flight season fields departure 1 good c.requires (refl, refl, refl) refl (departure_1 season fields good c.in_ok-code.ensures.found) (λ flight is. let e = c.in_err-flight.ensures.only flight is in cc) in
    search rules

pub returns-in_err-first-clause-fault : goal.returns-in_err-first-clause-fault
returns-in_err-first-clause-fault c =
    let season = c.args.season.now in
    let fields = c.args.fields.now in
    let good = leaving c.in_ok-code.code (stop_of c.in_ok-flight.flight no_station None 0 0) no_period 0 no_craft in
    let bad : IsFaultyField season fields 3 = no_dates season fields departure 2 good c.requires (refl, refl, refl) refl (departure_2 season fields good c.in_ok-code.ensures.found c.in_ok-flight.ensures.found) (λ first last is. absurd (c.in_err-first.ensures.only first last is)) in
    search rules

pub returns-in_err-period-clause-fault : goal.returns-in_err-period-clause-fault
returns-in_err-period-clause-fault c =
    let season = c.args.season.now in
    let fields = c.args.fields.now in
    let good = leaving c.in_ok-code.code (stop_of c.in_ok-flight.flight no_station None 0 0) (record { first = c.in_ok-first.first; last = c.in_ok-first.last; days = 0 }) 0 no_craft in
    let bad : IsFaultyField season fields 4 = no_weekdays season fields departure 2 good c.in_ok-first.first c.in_ok-first.last c.requires (refl, refl, refl) refl refl (departure_3 season fields good c.in_ok-code.ensures.found c.in_ok-flight.ensures.found c.in_ok-first.ensures.found) c.in_ok-first.ensures.only (λ p f l is. let e = c.in_err-period.ensures.only p f l is in cc) in
    search rules

pub returns-in_err-seats-clause-fault : goal.returns-in_err-seats-clause-fault
returns-in_err-seats-clause-fault c =
    let season = c.args.season.now in
    let fields = c.args.fields.now in
    let good = leaving c.in_ok-code.code (stop_of c.in_ok-flight.flight no_station None 0 0) c.in_ok-period.period 0 no_craft in
    let bad : IsFaultyField season fields 5 = no_seats season fields departure 4 good c.requires (refl, refl, refl) refl (departure_4 season fields good c.in_ok-code.ensures.found c.in_ok-flight.ensures.found (dates_moved season fields 2 c.in_ok-first.first c.in_ok-first.last c.in_ok-period.period c.in_ok-first.ensures.found c.in_ok-period.ensures.found.0 c.in_ok-period.ensures.found.1) c.in_ok-period.ensures.found.2) (λ seats craft is. absurd (c.in_err-seats.ensures.only seats craft is)) in
    search rules

pub returns-in_err-near-clause-fault : goal.returns-in_err-near-clause-fault
returns-in_err-near-clause-fault c =
    let season = c.args.season.now in
    let fields = c.args.fields.now in
    let good = leaving c.in_ok-code.code (stop_of c.in_ok-flight.flight no_station None 0 0) c.in_ok-period.period c.in_ok-seats.seats c.in_ok-seats.craft in
    let bad : IsFaultyField season fields 6 = no_departure_group season fields departure 5 good c.requires (refl, refl, refl) refl (departure_5 season fields good c.in_ok-code.ensures.found c.in_ok-flight.ensures.found (dates_moved season fields 2 c.in_ok-first.first c.in_ok-first.last c.in_ok-period.period c.in_ok-first.ensures.found c.in_ok-period.ensures.found.0 c.in_ok-period.ensures.found.1) c.in_ok-period.ensures.found.2 c.in_ok-seats.ensures.found) (λ near far minute is. let e = c.in_err-near.ensures.only near far minute is in cc) in
    search rules

pub returns-in_err-service-clause-fault : goal.returns-in_err-service-clause-fault
returns-in_err-service-clause-fault c =
    let season = c.args.season.now in
    let fields = c.args.fields.now in
    let good = leaving c.in_ok-code.code (stop_of c.in_ok-flight.flight c.in_ok-near.near c.in_ok-near.far c.in_ok-near.minute 0) c.in_ok-period.period c.in_ok-seats.seats c.in_ok-seats.craft in
    let bad : IsFaultyField season fields 7 = no_departure_service season fields departure 6 good c.requires (refl, refl, refl) refl (departure_6 season fields good c.in_ok-code.ensures.found c.in_ok-flight.ensures.found (dates_moved season fields 2 c.in_ok-first.first c.in_ok-first.last c.in_ok-period.period c.in_ok-first.ensures.found c.in_ok-period.ensures.found.0 c.in_ok-period.ensures.found.1) c.in_ok-period.ensures.found.2 c.in_ok-seats.ensures.found c.in_ok-near.ensures.found) (λ x is. let e = c.in_err-service.ensures.only x is in cc) in
    search rules

pub returns-in_err-end_at-clause-fault : goal.returns-in_err-end_at-clause-fault
returns-in_err-end_at-clause-fault c =
    let season = c.args.season.now in
    let fields = c.args.fields.now in
    let line = leaving c.in_ok-code.code (stop_of c.in_ok-flight.flight c.in_ok-near.near c.in_ok-near.far c.in_ok-near.minute c.in_ok-service.service) c.in_ok-period.period c.in_ok-seats.seats c.in_ok-seats.craft in
    let bad : IsFaultyField season fields 8 = too_many season fields departure 7 line c.requires (refl, refl, refl) refl (departure_7 season fields line c.in_ok-code.ensures.found c.in_ok-flight.ensures.found (dates_moved season fields 2 c.in_ok-first.first c.in_ok-first.last c.in_ok-period.period c.in_ok-first.ensures.found c.in_ok-period.ensures.found.0 c.in_ok-period.ensures.found.1) c.in_ok-period.ensures.found.2 c.in_ok-seats.ensures.found c.in_ok-near.ensures.found c.in_ok-service.ensures.found) c.in_err-end_at.ensures.more.1 in
    search rules

pub returns-clause-found : goal.returns-clause-found
returns-clause-found c =
    let season = c.args.season.now in
    let fields = c.args.fields.now in
    let line = leaving c.in_ok-code.code (stop_of c.in_ok-flight.flight c.in_ok-near.near c.in_ok-near.far c.in_ok-near.minute c.in_ok-service.service) c.in_ok-period.period c.in_ok-seats.seats c.in_ok-seats.craft in
    whole_line season fields departure 6 departure_service line c.requires (refl, refl, refl) refl refl (departure_7 season fields line c.in_ok-code.ensures.found c.in_ok-flight.ensures.found (dates_moved season fields 2 c.in_ok-first.first c.in_ok-first.last c.in_ok-period.period c.in_ok-first.ensures.found c.in_ok-period.ensures.found.0 c.in_ok-period.ensures.found.1) c.in_ok-period.ensures.found.2 c.in_ok-seats.ensures.found c.in_ok-near.ensures.found c.in_ok-service.ensures.found) c.in_ok-end_at.ensures.ends

pub returns-clause-same : goal.returns-clause-same
returns-clause-same c = λ other is. departure_same c.args.season.now c.args.fields.now c.in_ok-code.code c.in_ok-flight.flight c.in_ok-first.first c.in_ok-first.last c.in_ok-period.period c.in_ok-seats.seats c.in_ok-seats.craft c.in_ok-near.near c.in_ok-near.far c.in_ok-near.minute c.in_ok-service.service other c.requires is c.in_ok-code.ensures.only c.in_ok-flight.ensures.only c.in_ok-first.ensures.only c.in_ok-period.ensures.only c.in_ok-seats.ensures.only c.in_ok-near.ensures.only c.in_ok-service.ensures.only
