use Rattle.std.proofs.Common.{◌∙◌}
use Rattle.holding_book.proofs.FoundLemmas.{places_there, held_placed}
use Rattle.holding_book.proofs.finding.holdings_of.Goals as goal

pub held_among-requires : goal.held_among-requires
held_among-requires c = places_there c.args.flight.now c.args.holdings.now c.of_flight-of_flight.result.now (c.of_flight-of_flight.ensures ∙ c.requires.kept c.args.flight.now)

pub returns : goal.returns
returns c = c.in_ok-found.ensures ∙ held_placed c.args.flight.now c.args.holdings.now c.of_flight-of_flight.result.now (c.of_flight-of_flight.ensures ∙ c.requires.kept c.args.flight.now)
