use Rattle.std.proofs.Common.{◌∙◌, ◌≤◌, ap, sym, subst, arith}
use Rattle.incumbent_word.specs.declared.view.SeatState.{SeatState}
use Rattle.incumbent_word.specs.Seats.{BoardView, SeatView}
use Rattle.incumbent_word.proofs.Allowed.{splits_off, seats}
use Rattle.incumbent_word.proofs.board.BoardSeat.split.Goals as goal

pub load-requires : goal.load-requires
load-requires c = (ap (λ (s : SeatView). s.board) c.self.view_is ∙ (c.requires.own.0 ∙ sym (ap (λ (b : BoardView). b.id) c.board.view_is)), (let words = c.board.invariant.0 in omega arith), splits_off _ _ _ c.self.invariant.2 c.self.invariant.1 _)

pub split_seat-seat-requires : goal.split_seat-seat-requires
split_seat-seat-requires c = let p = c.load.ensures.2.1 in let two : 2 ≤ c.self.inside.seat.me.0.view.share = subst (λ (s : SeatView). 2 ≤ s.view.share) (sym c.self.view_is) c.requires.share in
    let two' : 2 ≤ c.load.new.seat.me.0.view.share = subst (λ (s : SeatState). 2 ≤ s.view.share) (sym p.2) two in (
      c.load.ensures.0 ∙ (ap (λ (s : SeatView). s.board) c.self.view_is ∙ (c.requires.own.0 ∙ sym (ap (λ (b : BoardView). b.id) c.board.view_is))),
      (let words = c.board.invariant.0 in omega arith),
      seats _ _ c.load.new.seat.me (omega arith) _ (ap (λ (s : SeatState). s.guest) p.2) two',
    )
