use Rattle.std.proofs.Common.{◌∙◌, ◌∷◌, Some, length, ap, sym, arith}
use Rattle.atomic_table.specs.Table.{rest}
use Rattle.turn_lock.specs.Inside.{seen_of}
use Rattle.turn_lock.proofs.WinKeeps.{tries}
use Rattle.turn_lock.proofs.Moves.{with_rest}
use Rattle.turn_lock.proofs.Taking.{takes_out, is_seat_holding, goes_on_as, origin_as}
use Rattle.turn_lock.proofs.turn.Turn.try_take.Goals as goal

pub compare_exchange-requires : goal.compare_exchange-requires
compare_exchange-requires g c = (
  ap (λ s. s.turn) c.seat.view_is ∙ (c.requires.rest.0.0 ∙ sym (ap (λ r. r.id) c.self.view_is)),
  (let words = c.self.invariant.0 in omega arith),
  tries _ _ _ _ _ _ _ _ (let l = ap length c.seat.invariant.alone in omega arith),
)

pub exchange-requires : goal.exchange-requires
exchange-requires g c = let won = c.compare_exchange.ensures.2.0 c.if-compare_exchange-ne0.false in
    let empty = c.seat.invariant.at_rest (ap (λ s. s.holds) c.seat.view_is ∙ c.requires.rest.1) in (
      c.compare_exchange.ensures.0
          ∙ (ap (λ s. s.turn) c.seat.view_is ∙ (c.requires.rest.0.0 ∙ sym (ap (λ r. r.id) c.self.view_is))),
      (Some won.value, with_rest _ _ (won.slot ∙ ap (λ l. (0, Some won.value) ∷ l) empty)),
    )

pub invariant_of-seat-2 : goal.invariant_of-seat-2
invariant_of-seat-2 g c = let won = c.compare_exchange.ensures.2.0 c.if-compare_exchange-ne0.false in
    let free = ap (λ s. s.holds) c.seat.view_is ∙ c.requires.rest.1 in
    let taken = takes_out _ _ _ _ _ c.in-Some.value _ _ _ c.seat.invariant free won (c.exchange.ensures.2
    ∙ ap (λ x. (0, x) ∷ rest c.compare_exchange.new.seat.me.1) c.in-Some.is) c.exchange.ensures.3 in
    is_seat_holding g.T.Story.origin g.T.Story.entries g.T.Story.caller _ c.in-Some.value _ _ taken.now _ c.length-seat-inside.ensures

pub returns-clause-origin : goal.returns-clause-origin
returns-clause-origin g c = let won = c.compare_exchange.ensures.2.0 c.if-compare_exchange-ne0.false in
    let free = ap (λ s. s.holds) c.seat.view_is ∙ c.requires.rest.1 in
    let taken = takes_out g.T.Story.origin g.T.Story.entries g.T.Story.caller _ _ c.in-Some.value _ _ _ c.seat.invariant free won (c.exchange.ensures.2 ∙ ap (λ x. (0, x) ∷ rest c.compare_exchange.new.seat.me.1) c.in-Some.is) c.exchange.ensures.3 in
    origin_as _ _ _ _ taken.origin_is (ap (λ s. s.origin) c.seat.view_is) c.requires.rest.0.1

pub returns-clause-longer : goal.returns-clause-longer
returns-clause-longer g c = let won = c.compare_exchange.ensures.2.0 c.if-compare_exchange-ne0.false in
    let free = ap (λ s. s.holds) c.seat.view_is ∙ c.requires.rest.1 in
    let taken = takes_out g.T.Story.origin g.T.Story.entries g.T.Story.caller _ _ c.in-Some.value _ _ _ c.seat.invariant free won (c.exchange.ensures.2 ∙ ap (λ x. (0, x) ∷ rest c.compare_exchange.new.seat.me.1) c.in-Some.is) c.exchange.ensures.3 in
    goes_on_as g.T.Story.caller _ _ _ _ (g.T.Story.entries c.in-Some.value) (ap (λ s. s.number) c.seat.view_is) (sym (ap seen_of c.seat.invariant.alone) ∙ ap (λ s. s.seen) c.seat.view_is) taken.longer
