use Rattle.std.proofs.Common.{◌∙◌, None, ap, sym, arith}
use Rattle.turn_lock.proofs.DecideKeeps.{decided_if}
use Rattle.turn_lock.proofs.Moves.{with_rest}
use Rattle.turn_lock.proofs.Putting.{put_in, may_give, decided_view}
use Rattle.turn_lock.proofs.turn.Turn.put.Goals as goal

pub exchange-requires : goal.exchange-requires
exchange-requires g c = (
  c.requires.of_turn
      ∙ sym (ap (λ r. r.id) c.self.view_is),
  (None, with_rest _ _ (c.requires.seat.at_work c.requires.holds).0),
)

pub fetch_add-requires : goal.fetch_add-requires
fetch_add-requires g c = let s = c.requires.seat in
    let is = put_in g.T.Story.origin g.T.Story.entries g.T.Story.caller c.args.number c.args.taken c.args.value c.args.seat.now.me c.exchange.new.seat.me s c.requires.holds c.exchange.ensures.3 in (
      c.exchange.ensures.0 ∙ (c.requires.of_turn ∙ sym (ap (λ r. r.id) c.self.view_is)),
      (let words = c.self.invariant.0 in omega arith),
      decided_if _ _ _ _ _ _ _ s.one (ap (λ m. m.0.callers) is
          ∙ s.alone) c.args.value (ap (λ m. m.1) is) (ap (λ m. m.0.holds) is ∙ c.requires.holds) _
          (may_give g.T.Story.origin g.T.Story.entries g.T.Story.caller _ _ _ s _ c.requires.entry) (let t = (s.at_work c.requires.holds).1 in omega (arith, c.length.ensures)) (let l = c.length.type_inv in omega (arith, c.length.ensures)),
    )

pub returns-then-grew-clause-view : goal.returns-then-grew-clause-view
returns-then-grew-clause-view g c = let s = c.requires.seat in
    let is = put_in g.T.Story.origin g.T.Story.entries g.T.Story.caller c.args.number c.args.taken c.args.value c.args.seat.now.me c.exchange.new.seat.me s c.requires.holds c.exchange.ensures.3 in
    decided_view g.T.Story.origin g.T.Story.entries g.T.Story.caller c.args.number c.args.taken c.args.value c.args.seat.now.me c.exchange.new.seat.me _ s c.requires.holds is (c.fetch_add.ensures.2.1 c.args.value (ap (λ m. m.1) is))
