use Rattle.turn_lock.specs.Seats.{IsAtRest}
use Rattle.book_rows.proofs.ledgers.ask_often.Given as goal

abbrev pub invariant-loop : goal.invariant-loop
invariant-loop g l = IsAtRest l.ledger l.pass
