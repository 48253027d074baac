use Rattle.std.proofs.Common.{◌≡◌, subst}
use Rattle.turn_lock.specs.History.{own}
use Rattle.turn_lock.proofs.Taking.{own_of_seat}
use Rattle.turn_lock.proofs.seat.TurnSeat.number.Goals as goal

pub returns-clause-own : goal.returns-clause-own
returns-clause-own g c = subst (λ s. s.own ≡ own g.T.Story.caller s.number s.seen) c.self.view_is (own_of_seat g.T.Story.caller _ _ _ c.self.invariant)
