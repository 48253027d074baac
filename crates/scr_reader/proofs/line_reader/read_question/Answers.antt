use Rattle.scr_reader.specs.Rows.{IsAskedFlight}
use Rattle.scr_reader.proofs.RowLemmas.{asks, asked_first, no_first_asked, got_first, got_flight, same_flight}
use Rattle.scr_reader.proofs.line_reader.read_question.Goals as goal

pub returns-in_err-first-clause-fault : goal.returns-in_err-first-clause-fault
returns-in_err-first-clause-fault c = absurd (no_first_asked c.args.fields.now c.get.result 1 c.in_err-first.field-0.0 c.in_err-first.ensures.value c.get.ensures c.requires)

pub returns-clause-found : goal.returns-clause-found
returns-clause-found c =
    asks c.args.fields.now c.in_ok-first.first.now c.in_ok-flight.flight (got_first c.args.fields.now c.get.result c.in_ok-first.first 1 c.in_ok-first.ensures.value c.get.ensures)
    (got_flight c.read_asked.result c.in_ok-flight.flight 1 (IsAskedFlight c.in_ok-first.first.now) c.in_ok-flight.ensures.value c.read_asked.ensures.found) c.in_ok-end_at.ensures.ends

pub returns-clause-same : goal.returns-clause-same
returns-clause-same c = λ other is.
    same_flight c.read_asked.result c.in_ok-flight.flight other 1 c.in_ok-flight.ensures.value
    (c.read_asked.ensures.only other (asked_first c.args.fields.now c.in_ok-first.first.now other (got_first c.args.fields.now c.get.result c.in_ok-first.first 1 c.in_ok-first.ensures.value c.get.ensures) is))
