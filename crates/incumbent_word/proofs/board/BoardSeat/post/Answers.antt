use Rattle.std.proofs.Common.{◌∙◌, ap, sym, arith}
use Rattle.incumbent_word.specs.Seats.{BoardView, SeatView}
use Rattle.incumbent_word.proofs.Allowed.{posts}
use Rattle.incumbent_word.proofs.board.BoardSeat.post.Goals as goal

pub fetch_min-requires : goal.fetch_min-requires
fetch_min-requires c = (ap (λ (s : SeatView). s.board) c.self.view_is ∙ (c.requires.own.0 ∙ sym (ap (λ (b : BoardView). b.id) c.board.view_is)), (let words = c.board.invariant.0 in omega arith), posts _ _ _ c.self.invariant.2 c.self.invariant.1 _ _ c.requires.cost)
