use Rattle.std.proofs.Common.{◌≡◌}
use Rattle.turn_lock.specs.Seats.{IsAtRest}
use Rattle.book_rows.proofs.journals.ask_in_turn.Given as goal

abbrev pub invariant-loop-n : goal.invariant-loop-n
invariant-loop-n g l = IsAtRest l.ledger l.first × IsAtRest l.ledger l.second
    × (l.season ≡ l.ledger.origin.start.declaration.season)
