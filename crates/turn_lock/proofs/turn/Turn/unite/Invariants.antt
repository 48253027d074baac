use Rattle.std.proofs.Common.{vec_len}
use Rattle.turn_lock.proofs.Uniting.{Joining}
use Rattle.turn_lock.proofs.turn.Turn.unite.Given as goal

abbrev pub invariant-loop-other : goal.invariant-loop-other
invariant-loop-other g l = Joining l.self l.fn.seats.items l.seats.items l.last

abbrev pub decreases-loop-other : goal.decreases-loop-other
decreases-loop-other g l = vec_len l.seats
