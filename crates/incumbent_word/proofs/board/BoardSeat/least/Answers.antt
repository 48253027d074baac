use Rattle.std.proofs.Common.{◌∙◌, ap, sym, arith}
use Rattle.incumbent_word.specs.Seats.{BoardView, SeatView}
use Rattle.incumbent_word.proofs.Allowed.{reads}
use Rattle.incumbent_word.proofs.board.BoardSeat.least.Goals as goal

pub load-found-requires : goal.load-found-requires
load-found-requires c = (ap (λ (s : SeatView). s.board) c.self.view_is ∙ (c.requires.0 ∙ sym (ap (λ (b : BoardView). b.id) c.board.view_is)), (let words = c.board.invariant.0 in omega arith), reads _ _ _ c.self.invariant.2 c.self.invariant.1 _)
