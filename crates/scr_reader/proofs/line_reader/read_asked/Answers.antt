use Rattle.scr_reader.proofs.RowLemmas.{asked_rest}
use Rattle.scr_reader.proofs.line_reader.read_asked.Goals as goal

pub returns-clause-only : goal.returns-clause-only
returns-clause-only c = λ flight is. c.read_flight.ensures.only flight (asked_rest c.args.text.now flight is).1
