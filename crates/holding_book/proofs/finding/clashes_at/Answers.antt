use Rattle.std.proofs.Common.{◌∙◌}
use Rattle.holding_book.proofs.FoundLemmas.{places_there}
use Rattle.holding_book.proofs.finding.clashes_at.Goals as goal

pub clashes_among-requires : goal.clashes_among-requires
clashes_among-requires c = places_there c.in-Some.stop.flight c.args.holdings.now c.of_flight-of_flight.result.now (c.of_flight-of_flight.ensures ∙ c.requires.kept c.in-Some.stop.flight)
