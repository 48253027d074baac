use Rattle.std.proofs.Common.{◌∙◌, ◌≡◌, ◌≤◌, ◌==◌, ℕ, ap, sym, subst, arith}
use Rattle.std.specs.List.{count_by}
use Rattle.incumbent_word.specs.Seats.{BoardView, SeatView}
use Rattle.incumbent_word.proofs.Allowed.{takes}
use Rattle.incumbent_word.proofs.board.BoardSeat.take.Goals as goal

pub fetch_add-found-requires : goal.fetch_add-found-requires
fetch_add-found-requires c = (ap (λ (s : SeatView). s.board) c.self.view_is ∙ (c.requires.0 ∙ sym (ap (λ (b : BoardView). b.id) c.board.view_is)), (let words = c.board.invariant.0 in omega arith), takes _ _ _ c.self.invariant.2 c.self.invariant.1 _ (c.self.invariant.4 ∙ c.if-self.false))

pub returns-then-found-from-clause-rising : goal.returns-then-found-from-clause-rising
returns-then-found-from-clause-rising c = subst (λ (s : SeatView). (x : ℕ) → c.fetch_add-found.result ≤ x → count_by (λ y. y == x) s.view.worker.numbers ≡ 0) c.self.view_is c.fetch_add-found.ensures.2.1.rising
