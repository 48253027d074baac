use Rattle.std.proofs.Common.{◌≡◌, ap}
use Rattle.std.proofs.lemmas.Result.{MatchResult-weaker}
use Rattle.slot_ledger.proofs.TurnLemmas.{may_give, has_entered, seen_more}
use Rattle.slot_ledger.proofs.turns.SharedLedger.amend.Goals as goal

pub give-requires-clause-entry : goal.give-requires-clause-entry
give-requires-clause-entry g c =
    let s : c.take-shared.new.seat.seen ≡ g.B.Beside.told c.take-shared.result.beside c.take-shared.result.history = ap (λ v. v.seen) c.take-shared.ensures.seat in
    rw (s, ← c.number.ensures.number) (may_give g.B.Beside.read g.B.Beside.done g.B.Beside.number c.laws.ensures.parts c.laws.ensures.entries c.number.result c.args.ask.now c.enter-answer.result _ _ c.enter-answer.ensures.told c.enter-answer.ensures.marks)

pub returns-clause-entered : goal.returns-clause-entered
returns-clause-entered g c =
    MatchResult-weaker c.enter-answer.result c.enter-answer.ensures.told
    (λ answer e. has_entered g.B.Beside.read g.B.Beside.done g.B.Beside.number c.laws.ensures.parts c.laws.ensures.entries c.laws.ensures.own
    c.args.pass.now c.take-shared.new.seat c.give.new.seat (g.B.Beside.told c.take-shared.result.beside c.take-shared.result.history) (g.B.Beside.told c.enter-answer.new.self.beside c.enter-answer.new.self.history)
    (record { taken = c.take-shared.ensures.seat; longer = c.take-shared.ensures.longer; given = c.give.ensures.seat; grew = c.give.ensures.grew })
    c.args.ask.now answer c.number.result c.number.ensures.number e)
    (λ _ t. t)

pub returns-clause-others : goal.returns-clause-others
returns-clause-others g c =
    MatchResult-weaker c.enter-answer.result c.enter-answer.ensures.marks
    (λ _ t. t)
    (λ _ e. seen_more g.B.Beside.read g.B.Beside.done g.B.Beside.number c.laws.ensures.parts c.laws.ensures.entries c.laws.ensures.own
    c.args.pass.now c.take-shared.new.seat c.give.new.seat (g.B.Beside.told c.take-shared.result.beside c.take-shared.result.history) (g.B.Beside.told c.enter-answer.new.self.beside c.enter-answer.new.self.history)
    (record { taken = c.take-shared.ensures.seat; longer = c.take-shared.ensures.longer; given = c.give.ensures.seat; grew = c.give.ensures.grew })
    c.number.result e)
