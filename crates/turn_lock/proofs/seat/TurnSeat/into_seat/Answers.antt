use Rattle.std.proofs.Common.{◌∙◌, ◌∷◌, [], ap}
use Rattle.turn_lock.proofs.Moves.{alone_is}
use Rattle.turn_lock.proofs.seat.TurnSeat.into_seat.Goals as goal

pub returns : goal.returns
returns g c = let i = c.self.invariant in record {
  turn = ap (λ s. s.turn) c.self.view_is;
  holds = ap (λ s. s.holds) c.self.view_is;
  empty = λ free. i.at_rest (ap (λ s. s.holds) c.self.view_is ∙ free);
  caller = i.alone ∙ (alone_is _ _ _ i.alone i.number_is
      ∙ ap (λ s. record { number = s.number; seen = s.seen; own = s.own } ∷ []) c.self.view_is);
}
