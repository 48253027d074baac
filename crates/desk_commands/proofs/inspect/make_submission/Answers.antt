use Rattle.series_model.specs.Submissions.{submission_answer}
use Rattle.series_model.specs.declared.fault.ModelFault.TheVariants.{Memory as no_model}
use Rattle.desk_commands.proofs.JudgementLemmas.{answered_err}
use Rattle.desk_commands.proofs.CauseLemmas.{fault_of_text}
use Rattle.desk_commands.proofs.inspect.make_submission.Goals as goal

pub submission_refusal-requires-clause-has : goal.submission_refusal-requires-clause-has
submission_refusal-requires-clause-has c =
    fault_of_text c.args.bytes.now c.args.declaration c.args.messages c.in-Err.fault c.requires.read (answered_err no_model (submission_answer c.args.declaration c.args.messages) c.in-Err.fault c.in-Err.ensures)

pub returns-in-Err-clause-stop : goal.returns-in-Err-clause-stop
returns-in-Err-clause-stop c = λ names capacity rest declared.
    c.submission_refusal.ensures c.args.declaration c.args.messages c.requires.read (answered_err no_model (submission_answer c.args.declaration c.args.messages) c.in-Err.fault c.in-Err.ensures) names capacity rest declared
