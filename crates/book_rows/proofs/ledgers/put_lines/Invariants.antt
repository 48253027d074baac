use Rattle.turn_lock.specs.Seats.{IsAtRest}
use Rattle.book_rows.proofs.ledgers.put_lines.Given as goal

abbrev pub invariant-loop-line : goal.invariant-loop-line
invariant-loop-line g l = IsAtRest l.ledger l.caller.pass
