use Rattle.std.proofs.Common.{subst, sym}
use Rattle.std.specs.Prelude.{All}
use Rattle.holding_book.specs.Private.Given.{IsGiven}
use Rattle.holding_book.proofs.StartLemmas.{stage_given}
use Rattle.holding_book.proofs.start.after_next.Goals as goal

pub returns-clause-given : goal.returns-clause-given
returns-clause-given c =
    let d = c.args.submission.now.declaration in
    subst (All (IsGiven d)) (sym c.in_ok-after.ensures.after) (stage_given d c.args.stage c.args.states.items c.args.choice.now c.requires.given)
