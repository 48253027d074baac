use Rattle.turn_lock.specs.Seats.{IsAtRest}
use Rattle.book_rows.proofs.ledgers.put_in_order.Given as goal

abbrev pub invariant-loop-part : goal.invariant-loop-part
invariant-loop-part g l = IsAtRest l.ledger l.first.pass × IsAtRest l.ledger l.second.pass
