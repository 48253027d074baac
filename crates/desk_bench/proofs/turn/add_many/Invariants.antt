use Rattle.turn_lock.specs.Seats.{IsAtRest}
use Rattle.desk_bench.proofs.turn.add_many.Given as goal

abbrev pub invariant-loop : goal.invariant-loop
invariant-loop g l = IsAtRest l.turn l.seat
