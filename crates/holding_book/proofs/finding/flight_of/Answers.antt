use Rattle.holding_book.proofs.FoundLemmas.{match_arrival}
use Rattle.holding_book.proofs.finding.flight_of.Goals as goal

pub returns-in-Some : goal.returns-in-Some
returns-in-Some c = match_arrival c.args.line.now c.in-Some.coming c.in-Some.is
