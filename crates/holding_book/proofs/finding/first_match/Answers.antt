use Rattle.std.proofs.Common.{◌∙◌, ◌<◌, sym, ap, subst, List, ℕ, length, Option}
use Rattle.std.specs.Prelude.{IfSome}
use Rattle.holding_book.specs.Lines.{matches}
use Rattle.holding_book.specs.Private.Found.{passes_at, first_of}
use Rattle.holding_book.proofs.FindLemmas.{first-below}
use Rattle.holding_book.proofs.FoundLemmas.{places_there, first_placed}
use Rattle.holding_book.proofs.finding.first_match.Goals as goal

pub first_among-requires : goal.first_among-requires
first_among-requires c = places_there c.flight_of-flight.result c.args.holdings.now c.of_flight-of_flight.result.now (c.of_flight-of_flight.ensures ∙ c.requires.kept c.flight_of-flight.result)

pub returns-clause-place : goal.returns-clause-place
returns-clause-place c =
    let hs = c.args.holdings.now in
    let test = matches c.args.season.now c.args.state c.args.line.now in
    let flight = c.flight_of-flight.result in
    c.first_among.ensures
    ∙ ap (λ (ns : List ℕ). first_of (passes_at (λ _ h. test h) hs) ns) (c.of_flight-of_flight.ensures ∙ c.requires.kept flight)
    ∙ first_placed test flight (c.flight_of-flight.ensures c.args.season.now c.args.state) hs

pub returns-clause-there : goal.returns-clause-there
returns-clause-there c =
    let hs = c.args.holdings.now in
    let test = matches c.args.season.now c.args.state c.args.line.now in
    let flight = c.flight_of-flight.result in
    let place = c.first_among.ensures
    ∙ ap (λ (ns : List ℕ). first_of (passes_at (λ _ h. test h) hs) ns) (c.of_flight-of_flight.ensures ∙ c.requires.kept flight)
    ∙ first_placed test flight (c.flight_of-flight.ensures c.args.season.now c.args.state) hs in
    subst (λ (o : Option ℕ). IfSome o (λ n. n < length hs)) (sym place) (first-below test hs)
