use Rattle.series_model.specs.Submissions.{submission_answer}
use Rattle.series_model.specs.declared.fault.ModelFault.TheVariants.{Memory as no_model}
use Rattle.desk_commands.proofs.JudgementLemmas.{answered_err}
use Rattle.desk_commands.proofs.season.make_submission.Goals as goal

pub returns-in-Err-clause-stop : goal.returns-in-Err-clause-stop
returns-in-Err-clause-stop c = (c.in-Err.fault, answered_err no_model (submission_answer c.args.declaration c.args.messages) c.in-Err.fault c.in-Err.ensures, c.submission_stop.ensures)
