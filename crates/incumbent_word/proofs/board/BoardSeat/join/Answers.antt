use Rattle.std.proofs.Common.{◌∙◌, ◌≡◌, ◌≤◌, ◌+◌, ◌||◌, refl, ap, sym, subst, arith}
use Rattle.incumbent_word.specs.declared.view.View.{View}
use Rattle.atomic_table.specs.Table.{Me}
use Rattle.incumbent_word.specs.declared.view.SeatState.{SeatState}
use Rattle.incumbent_word.specs.Seats.{BoardView, SeatView}
use Rattle.incumbent_word.proofs.Allowed.{hosts, joins_in, joins_both}
use Rattle.incumbent_word.proofs.board.BoardSeat.join.Goals as goal

pub join_seat-requires : goal.join_seat-requires
join_seat-requires c = (
  ap (λ (s : SeatView). s.board) c.self.view_is ∙ (c.requires.own.0 ∙ sym (ap (λ (b : BoardView). b.id) c.board.view_is)),
  ap (λ (s : SeatView). s.board) c.other.view_is ∙ (c.requires.other.0 ∙ sym (ap (λ (b : BoardView). b.id) c.board.view_is)),
  c.other.invariant.0,
  (let words = c.board.invariant.0 in omega arith),
  hosts _ _ c.self.inside.seat.me c.self.invariant.2 c.self.invariant.1 _ _ c.other.invariant.2 c.other.invariant.1,
)

pub load-requires : goal.load-requires
load-requires c = let hosted = ap (λ (m : Me (Unit {0}) SeatState). m.0) c.join_seat.ensures.2 in
    let share : 1 ≤ c.join_seat.new.seat.me.0.view.share = subst (λ (s : SeatState). 1 ≤ s.view.share) (sym hosted) (let one = c.self.invariant.2 in omega arith) in (
      c.join_seat.ensures.0 ∙ (ap (λ (s : SeatView). s.board) c.self.view_is ∙ (c.requires.own.0 ∙ sym (ap (λ (b : BoardView). b.id) c.board.view_is))),
      (let words = c.board.invariant.0 in omega arith),
      joins_in _ _ c.join_seat.new.seat.me share _ (ap (λ (s : SeatState). s.guest) hosted) _,
    )

pub invariant_of-self : goal.invariant_of-self
invariant_of-self c = let play = c.load.ensures.2 in let hosted = c.join_seat.ensures.2 in
    let both = (joins_both c.self.inside.seat.me.0 c.other.inside.seat.me.0 c.join_seat.new.seat.me c.load.new.seat.me _ _ (ap (λ (m : Me (Unit {0}) SeatState). m.0) hosted) play refl refl).0 in
    let share : c.load.new.seat.me.0.view.share ≡ c.self.inside.seat.me.0.view.share + c.other.inside.seat.me.0.view.share = ap (λ (v : View). v.share) both in (
      play.0 ∙ (ap (λ (m : Me (Unit {0}) SeatState). m.1) hosted ∙ c.self.invariant.0),
      play.1,
      (let one = c.self.invariant.2 in omega arith),
      ap (λ (v : View). v.no_piece_left) both ∙ λ i. c.self.invariant.3 i || c.other.invariant.3 i,
      ap (λ (v : View). v.no_number_left) both ∙ λ i. c.self.invariant.4 i || c.other.invariant.4 i,
    )

pub returns-clause-both : goal.returns-clause-both
returns-clause-both c = (joins_both c.self.inside.seat.me.0 c.other.inside.seat.me.0 c.join_seat.new.seat.me c.load.new.seat.me _ _ (ap (λ (m : Me (Unit {0}) SeatState). m.0) c.join_seat.ensures.2) c.load.ensures.2 (ap (λ (s : SeatView). s.view) c.self.view_is) (ap (λ (s : SeatView). s.view) c.other.view_is)).0

pub returns-clause-step : goal.returns-clause-step
returns-clause-step c = (joins_both c.self.inside.seat.me.0 c.other.inside.seat.me.0 c.join_seat.new.seat.me c.load.new.seat.me _ _ (ap (λ (m : Me (Unit {0}) SeatState). m.0) c.join_seat.ensures.2) c.load.ensures.2 (ap (λ (s : SeatView). s.view) c.self.view_is) (ap (λ (s : SeatView). s.view) c.other.view_is)).1

pub returns-clause-own : goal.returns-clause-own
returns-clause-own c = (c.load.ensures.0 ∙ (c.join_seat.ensures.0 ∙ (ap (λ (s : SeatView). s.board) c.self.view_is ∙ c.requires.own.0)), ap (λ (v : View). v.terms) (returns-clause-both c) ∙ c.requires.own.1)
