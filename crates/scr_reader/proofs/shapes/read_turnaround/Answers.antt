use Rattle.std.proofs.Common.{None, refl, rules}
use Rattle.scr_reader.specs.declared.line.Code.TheVariants.{N}
use Rattle.scr_reader.specs.Shapes.{IsFaultyField, turnaround, both_services}
use Rattle.scr_reader.proofs.AgreeLemmas.{too_many, whole_line}
use Rattle.scr_reader.proofs.FaultLemmas.{no_code_and_flight, no_flight, no_dates, no_weekdays, no_seats, no_arrival_group, no_later_group, no_services}
use Rattle.scr_reader.proofs.ShapeLemmas.{turning, stop_of, no_station, no_craft, no_period, no_flight_yet, dates_moved, turnaround_1, turnaround_2, turnaround_3, turnaround_4, turnaround_5, turnaround_6, turnaround_7, turnaround_8}
use Rattle.scr_reader.proofs.SameLemmas.{turnaround_same, triple_same}
use Rattle.scr_reader.proofs.shapes.read_turnaround.Goals as goal

pub returns-in_err-code-clause-fault : goal.returns-in_err-code-clause-fault
returns-in_err-code-clause-fault c =
    let season = c.args.season.now in
    let fields = c.args.fields.now in
    let good = turning N (stop_of no_flight_yet no_station None 0 0) (stop_of no_flight_yet no_station None 0 0) 0 no_period 0 no_craft in
    let bad : IsFaultyField season fields 1 = no_code_and_flight season fields turnaround 0 good c.requires (refl, refl) refl tt (λ code flight is. let e = c.in_err-code.ensures.only code flight is in cc) in
    search rules

pub returns-in_err-going-clause-fault : goal.returns-in_err-going-clause-fault
returns-in_err-going-clause-fault c =
    let season = c.args.season.now in
    let fields = c.args.fields.now in
    let good = turning c.in_ok-code.code (stop_of c.in_ok-code.coming no_station None 0 0) (stop_of no_flight_yet no_station None 0 0) 0 no_period 0 no_craft in
    let bad : IsFaultyField season fields 2 = no_flight season fields turnaround 1 good c.requires (refl, refl) refl (turnaround_1 season fields good c.in_ok-code.ensures.found) (λ flight is. let e = c.in_err-going.ensures.only flight is in cc) in
    search rules

pub returns-in_err-first-clause-fault : goal.returns-in_err-first-clause-fault
returns-in_err-first-clause-fault c =
    let season = c.args.season.now in
    let fields = c.args.fields.now in
    let good = turning c.in_ok-code.code (stop_of c.in_ok-code.coming no_station None 0 0) (stop_of c.in_ok-going.going no_station None 0 0) 0 no_period 0 no_craft in
    let bad : IsFaultyField season fields 3 = no_dates season fields turnaround 2 good c.requires (refl, refl) refl (turnaround_2 season fields good c.in_ok-code.ensures.found c.in_ok-going.ensures.found) (λ first last is. absurd (c.in_err-first.ensures.only first last is)) in
    search rules

pub returns-in_err-period-clause-fault : goal.returns-in_err-period-clause-fault
returns-in_err-period-clause-fault c =
    let season = c.args.season.now in
    let fields = c.args.fields.now in
    let good = turning c.in_ok-code.code (stop_of c.in_ok-code.coming no_station None 0 0) (stop_of c.in_ok-going.going no_station None 0 0) 0 (record { first = c.in_ok-first.first; last = c.in_ok-first.last; days = 0 }) 0 no_craft in
    let bad : IsFaultyField season fields 4 = no_weekdays season fields turnaround 2 good c.in_ok-first.first c.in_ok-first.last c.requires (refl, refl) refl refl (turnaround_3 season fields good c.in_ok-code.ensures.found c.in_ok-going.ensures.found c.in_ok-first.ensures.found) c.in_ok-first.ensures.only (λ p f l is. let e = c.in_err-period.ensures.only p f l is in cc) in
    search rules

pub returns-in_err-seats-clause-fault : goal.returns-in_err-seats-clause-fault
returns-in_err-seats-clause-fault c =
    let season = c.args.season.now in
    let fields = c.args.fields.now in
    let good = turning c.in_ok-code.code (stop_of c.in_ok-code.coming no_station None 0 0) (stop_of c.in_ok-going.going no_station None 0 0) 0 c.in_ok-period.period 0 no_craft in
    let bad : IsFaultyField season fields 5 = no_seats season fields turnaround 4 good c.requires (refl, refl) refl (turnaround_4 season fields good c.in_ok-code.ensures.found c.in_ok-going.ensures.found (dates_moved season fields 2 c.in_ok-first.first c.in_ok-first.last c.in_ok-period.period c.in_ok-first.ensures.found c.in_ok-period.ensures.found.0 c.in_ok-period.ensures.found.1) c.in_ok-period.ensures.found.2) (λ seats craft is. absurd (c.in_err-seats.ensures.only seats craft is)) in
    search rules

pub returns-in_err-near-clause-fault : goal.returns-in_err-near-clause-fault
returns-in_err-near-clause-fault c =
    let season = c.args.season.now in
    let fields = c.args.fields.now in
    let good = turning c.in_ok-code.code (stop_of c.in_ok-code.coming no_station None 0 0) (stop_of c.in_ok-going.going no_station None 0 0) 0 c.in_ok-period.period c.in_ok-seats.seats c.in_ok-seats.craft in
    let bad : IsFaultyField season fields 6 = no_arrival_group season fields turnaround 5 good c.requires (refl, refl) refl (turnaround_5 season fields good c.in_ok-code.ensures.found c.in_ok-going.ensures.found (dates_moved season fields 2 c.in_ok-first.first c.in_ok-first.last c.in_ok-period.period c.in_ok-first.ensures.found c.in_ok-period.ensures.found.0 c.in_ok-period.ensures.found.1) c.in_ok-period.ensures.found.2 c.in_ok-seats.ensures.found) (λ near far minute is. let e = c.in_err-near.ensures.only near far minute is in cc) in
    search rules

pub returns-in_err-to-clause-fault : goal.returns-in_err-to-clause-fault
returns-in_err-to-clause-fault c =
    let season = c.args.season.now in
    let fields = c.args.fields.now in
    let good = turning c.in_ok-code.code (stop_of c.in_ok-code.coming c.in_ok-near.near c.in_ok-near.far c.in_ok-near.minute 0) (stop_of c.in_ok-going.going no_station None 0 0) 0 c.in_ok-period.period c.in_ok-seats.seats c.in_ok-seats.craft in
    let bad : IsFaultyField season fields 7 = no_later_group season fields turnaround 5 good c.in_ok-near.minute c.requires (refl, refl) refl refl (turnaround_6 season fields good c.in_ok-code.ensures.found c.in_ok-going.ensures.found (dates_moved season fields 2 c.in_ok-first.first c.in_ok-first.last c.in_ok-period.period c.in_ok-first.ensures.found c.in_ok-period.ensures.found.0 c.in_ok-period.ensures.found.1) c.in_ok-period.ensures.found.2 c.in_ok-seats.ensures.found c.in_ok-near.ensures.found) (λ near far minute is. (triple_same _ _ _ _ _ _ (c.in_ok-near.ensures.only near far minute is)).2) (λ near far minute nights is. let e = c.in_err-to.ensures.only near far minute nights is in cc) in
    search rules

pub returns-in_err-arriving-clause-fault : goal.returns-in_err-arriving-clause-fault
returns-in_err-arriving-clause-fault c =
    let season = c.args.season.now in
    let fields = c.args.fields.now in
    let good = turning c.in_ok-code.code (stop_of c.in_ok-code.coming c.in_ok-near.near c.in_ok-near.far c.in_ok-near.minute 0) (stop_of c.in_ok-going.going c.in_ok-to.to c.in_ok-to.beyond c.in_ok-to.leaving 0) c.in_ok-to.nights c.in_ok-period.period c.in_ok-seats.seats c.in_ok-seats.craft in
    let bad : IsFaultyField season fields 8 = no_services season fields turnaround 7 good c.requires (refl, refl) refl (turnaround_7 season fields good c.in_ok-code.ensures.found c.in_ok-going.ensures.found (dates_moved season fields 2 c.in_ok-first.first c.in_ok-first.last c.in_ok-period.period c.in_ok-first.ensures.found c.in_ok-period.ensures.found.0 c.in_ok-period.ensures.found.1) c.in_ok-period.ensures.found.2 c.in_ok-seats.ensures.found c.in_ok-near.ensures.found c.in_ok-to.ensures.found) (λ a d is. let e = c.in_err-arriving.ensures.only a d is in cc) in
    search rules

pub returns-in_err-end_at-clause-fault : goal.returns-in_err-end_at-clause-fault
returns-in_err-end_at-clause-fault c =
    let season = c.args.season.now in
    let fields = c.args.fields.now in
    let line = turning c.in_ok-code.code (stop_of c.in_ok-code.coming c.in_ok-near.near c.in_ok-near.far c.in_ok-near.minute c.in_ok-arriving.arriving) (stop_of c.in_ok-going.going c.in_ok-to.to c.in_ok-to.beyond c.in_ok-to.leaving c.in_ok-arriving.departing) c.in_ok-to.nights c.in_ok-period.period c.in_ok-seats.seats c.in_ok-seats.craft in
    let bad : IsFaultyField season fields 9 = too_many season fields turnaround 8 line c.requires (refl, refl) refl (turnaround_8 season fields line c.in_ok-code.ensures.found c.in_ok-going.ensures.found (dates_moved season fields 2 c.in_ok-first.first c.in_ok-first.last c.in_ok-period.period c.in_ok-first.ensures.found c.in_ok-period.ensures.found.0 c.in_ok-period.ensures.found.1) c.in_ok-period.ensures.found.2 c.in_ok-seats.ensures.found c.in_ok-near.ensures.found c.in_ok-to.ensures.found c.in_ok-arriving.ensures.found) c.in_err-end_at.ensures.more.1 in
    search rules

pub returns-clause-found : goal.returns-clause-found
returns-clause-found c =
    let season = c.args.season.now in
    let fields = c.args.fields.now in
    let line = turning c.in_ok-code.code (stop_of c.in_ok-code.coming c.in_ok-near.near c.in_ok-near.far c.in_ok-near.minute c.in_ok-arriving.arriving) (stop_of c.in_ok-going.going c.in_ok-to.to c.in_ok-to.beyond c.in_ok-to.leaving c.in_ok-arriving.departing) c.in_ok-to.nights c.in_ok-period.period c.in_ok-seats.seats c.in_ok-seats.craft in
    whole_line season fields turnaround 7 both_services line c.requires (refl, refl) refl refl (turnaround_8 season fields line c.in_ok-code.ensures.found c.in_ok-going.ensures.found (dates_moved season fields 2 c.in_ok-first.first c.in_ok-first.last c.in_ok-period.period c.in_ok-first.ensures.found c.in_ok-period.ensures.found.0 c.in_ok-period.ensures.found.1) c.in_ok-period.ensures.found.2 c.in_ok-seats.ensures.found c.in_ok-near.ensures.found c.in_ok-to.ensures.found c.in_ok-arriving.ensures.found) c.in_ok-end_at.ensures.ends

pub returns-clause-same : goal.returns-clause-same
returns-clause-same c = λ other is. turnaround_same c.args.season.now c.args.fields.now c.in_ok-code.code c.in_ok-code.coming c.in_ok-going.going c.in_ok-first.first c.in_ok-first.last c.in_ok-period.period c.in_ok-seats.seats c.in_ok-seats.craft c.in_ok-near.near c.in_ok-near.far c.in_ok-near.minute c.in_ok-to.to c.in_ok-to.beyond c.in_ok-to.leaving c.in_ok-to.nights c.in_ok-arriving.arriving c.in_ok-arriving.departing other c.requires is c.in_ok-code.ensures.only c.in_ok-going.ensures.only c.in_ok-first.ensures.only c.in_ok-period.ensures.only c.in_ok-seats.ensures.only c.in_ok-near.ensures.only c.in_ok-to.ensures.only c.in_ok-arriving.ensures.only
