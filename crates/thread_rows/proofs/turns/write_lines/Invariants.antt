use Rattle.turn_lock.specs.Seats.{IsAtRest}
use Rattle.thread_rows.proofs.turns.write_lines.Given as goal

abbrev pub invariant-loop-place : goal.invariant-loop-place
invariant-loop-place g l = IsAtRest l.turn l.seat
