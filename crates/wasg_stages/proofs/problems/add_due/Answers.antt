use Rattle.std.proofs.Common.{rules, ◌≡◌, List, ◌∷◌, [], ◌++◌, true, false, sym, subst}
use Rattle.choice_problem.specs.Problems.{ChooserView}
use Rattle.series_model.specs.Stages.{is_due_state}
use Rattle.wasg_stages.specs.Steps.{AddsDue}
use Rattle.wasg_stages.proofs.BuildLemmas.{adds-due, adds-none}
use Rattle.wasg_stages.proofs.problems.add_due.Goals as goal

pub returns-in_ok-push-clause-adds : goal.returns-in_ok-push-clause-adds
returns-in_ok-push-clause-adds c =
    let due : is_due_state c.args.stage c.args.state.now ≡ true = search rules in
    let pushed : c.push.new.self.items ≡ c.args.choosers.now.items ++ c.in_ok-chooser.chooser ∷ [] = c.in_ok-push.ensures.items in
    subst (λ (ms : List ChooserView). AddsDue c.args.declaration.now c.args.stage c.args.state.now c.args.choosers.now.items ms) (sym pushed)
    (adds-due c.args.declaration.now c.args.stage c.args.state.now c.args.choosers.now.items c.in_ok-chooser.chooser due c.in_ok-chooser.ensures.chooser)

pub returns-else-is_due-clause-adds : goal.returns-else-is_due-clause-adds
returns-else-is_due-clause-adds c =
    let due : is_due_state c.args.stage c.args.state.now ≡ false = search rules in
    adds-none c.args.declaration.now c.args.stage c.args.state.now c.args.choosers.now.items due
