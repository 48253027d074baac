use Rattle.holding_book.proofs.FoundLemmas.{match_departure}
use Rattle.holding_book.proofs.finding.departing_flight.Goals as goal

pub returns : goal.returns
returns c = match_departure c.args.line.now c.in-Some.going c.in-Some.is
