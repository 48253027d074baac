use Rattle.desk_commands.proofs.trial.trial.Goals as goal

pub returns : goal.returns
returns g c = c.in_ok-answer.ensures c.args.number c.args.units c.in_ok-submission.ensures
