use Rattle.std.proofs.Common.{◌≡◌}
use Rattle.incumbent_word.specs.Seats.{IsSeatOf}
use Rattle.desk_bench.proofs.board.work.Given as goal

abbrev pub invariant-loop-round : goal.invariant-loop-round
invariant-loop-round l = IsSeatOf l.board l.seat × (l.seat.view.share ≡ l.fn.seat.view.share)
