use Rattle.std.proofs.Common.{List, sym, subst}
use Rattle.std.specs.Prelude.{All}
use Rattle.std.proofs.lemmas.List.Elements.{All-push}
use Rattle.holding_book.specs.Private.Trials.{IsTimesTrial}
use Rattle.holding_book.specs.declared.trials.Trial.{Trial}
use Rattle.holding_book.proofs.loads.Loads.trial_at.Goals as goal

pub returns-clause-trials : goal.returns-clause-trials
returns-clause-trials c =
    let P : Trial → Type 0 = IsTimesTrial c.args.self.now c.args.kind c.args.stop c.args.period in
    subst (λ (ts : List Trial). All P ts) (sym c.in_ok-push.ensures.items) (All-push P c.args.trials.now.items c.in_ok-trial.trial c.requires.trials c.in_ok-trial.ensures.trial)
