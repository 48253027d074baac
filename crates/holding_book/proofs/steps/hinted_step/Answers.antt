use Rattle.std.proofs.Common.{◌≡◌, true, false, subst, ◌∙◌, sym}
use Rattle.std.specs.Prelude.{IfOk}
use Rattle.holding_book.specs.Books.{season_of, clashes_with}
use Rattle.holding_book.specs.Asks.{AskOutcome}
use Rattle.holding_book.specs.Private.Steps.{held_book, IsAskStep}
use Rattle.holding_book.proofs.AskLemmas.{new_clash, new_free}
use Rattle.holding_book.proofs.steps.hinted_step.Goals as goal

pub returns-then-clashes_with_held : goal.returns-then-clashes_with_held
returns-then-clashes_with_held c =
    let b = held_book c.args.loads.now c.args.holdings.now in
    let clash : clashes_with (season_of b) c.args.line.now b.holdings ≡ true = rw c.declaration.ensures.value at (sym c.clashes_with_held.ensures ∙ c.if-clashes_with_held.true) in
    subst (λ (o : AskOutcome). IsAskStep b o c.stays.result) (sym (new_clash b c.args.line.now clash)) (c.stays.ensures b)

pub returns : goal.returns
returns c =
    let b = held_book c.args.loads.now c.args.holdings.now in
    let free : clashes_with (season_of b) c.args.line.now b.holdings ≡ false = rw c.declaration.ensures.value at (sym c.clashes_with_held.ensures ∙ c.if-clashes_with_held.false) in
    subst (λ (o : AskOutcome). IfOk c.place_new.result (λ step. IsAskStep b o step)) (sym (new_free b c.args.line.now free)) c.place_new.ensures
