use Rattle.std.proofs.Common.{sym, ◌∙◌, subst}
use Rattle.holding_book.specs.Asks.{AskOutcome}
use Rattle.holding_book.specs.Private.Steps.{book_with, IsAskStep}
use Rattle.holding_book.proofs.AskLemmas.{new_fits, new_row}
use Rattle.holding_book.proofs.book.Book.prepare_with.Goals as goal

pub hinted_step-requires-clause-line : goal.hinted_step-requires-clause-line
hinted_step-requires-clause-line c =
    let can = rw (← c.self.view_is) at c.requires.ask in
    new_fits c.self.inside.loads.declaration.season c.args.ask.now c.in-Some.line (sym c.new_line.ensures ∙ c.in-Some.is) can.spelled

pub hinted_step-requires-clause-best : goal.hinted_step-requires-clause-best
hinted_step-requires-clause-best c =
    let best = rw (← c.self.view_is) at (c.requires.hint c.in-Some.line (sym c.new_line.ensures ∙ c.in-Some.is)) in
    rw c.deref.ensures.value best

pub make_room-requires-clause-step : goal.make_room-requires-clause-step
make_room-requires-clause-step c =
    let b = book_with c.self.inside.loads.declaration c.self.inside.holdings.items in
    let step = rw c.deref.ensures.value at c.in_ok-step.ensures in
    let row = new_row b c.args.ask.now c.in-Some.line (sym c.new_line.ensures ∙ c.in-Some.is) in
    rw (← c.self.view_is) (subst (λ (o : AskOutcome). IsAskStep b o c.in_ok-step.step) (sym row) step)
