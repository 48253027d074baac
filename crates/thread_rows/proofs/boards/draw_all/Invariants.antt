use Rattle.std.proofs.Common.{◌≡◌}
use Rattle.incumbent_word.specs.Seats.{IsSeatOf}
use Rattle.thread_rows.proofs.boards.draw_all.Given as goal

abbrev pub invariant-loop : goal.invariant-loop
invariant-loop g l = IsSeatOf l.board l.seat × (l.seat.view.share ≡ l.fn.seat.view.share)
