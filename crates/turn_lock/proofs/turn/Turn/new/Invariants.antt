use Rattle.std.proofs.Common.{vec_len, vec_capacity}
use Rattle.turn_lock.proofs.NewSeats.{Seating}
use Rattle.turn_lock.proofs.turn.Turn.new.Given as goal

abbrev pub invariant-loop-number : goal.invariant-loop-number
invariant-loop-number g l = Seating l.table.shared.table_id (g.T.Story.origin l.fn.value) l.fn.callers l.number l.seats.items (vec_len l.seats) (vec_capacity l.seats) l.rest
