use Rattle.std.proofs.Common.{subst, sym}
use Rattle.holding_book.specs.Asks.{AskOutcome}
use Rattle.holding_book.specs.Private.Steps.{held_book, IsAskStep}
use Rattle.holding_book.proofs.AskLemmas.{other_code}
use Rattle.holding_book.proofs.steps.line_step.Goals as goal

pub returns-in_default : goal.returns-in_default
returns-in_default c =
    let b = held_book c.args.loads.now c.args.holdings.now in
    let line = c.args.line.now in
    let other = other_code b line line.code c.in_default.not-N c.in_default.not-B c.in_default.not-D c.in_default.not-Z c.in_default.not-A in
    subst (λ (o : AskOutcome). IsAskStep b o c.stays.result) (sym other) (c.stays.ensures b)
