use Rattle.std.proofs.Common.{rules, ◌≡◌, length, false}
use Rattle.series_model.specs.Stages.{is_due_state}
use Rattle.series_model.proofs.StepLemmas.{advances-skips, advances-ended}
use Rattle.series_model.proofs.stages.advanced.Goals as goal

pub returns-then-not-is_due-clause-after : goal.returns-then-not-is_due-clause-after
returns-then-not-is_due-clause-after c =
    let due : is_due_state c.args.stage c.args.state.now ≡ false = search rules in
    advances-skips c.args.declaration.now c.args.stage c.args.state.now c.args.numbers.now due

pub returns-then-is_empty-clause-after : goal.returns-then-is_empty-clause-after
returns-then-is_empty-clause-after c =
    let none : length c.args.numbers.now ≡ 0 = search rules in
    advances-ended c.args.declaration.now c.args.stage c.args.state.now c.args.numbers.now none
