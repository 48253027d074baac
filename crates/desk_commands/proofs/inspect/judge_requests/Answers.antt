use Rattle.std.proofs.lemmas.Result.{err_from_is_err_and}
use Rattle.desk_commands.proofs.JudgementLemmas.{season_made}
use Rattle.desk_commands.proofs.CauseLemmas.{accepts_requests_cause}
use Rattle.desk_commands.proofs.inspect.judge_requests.Goals as goal

pub returns-in_err-messages-clause-stop : goal.returns-in_err-messages-clause-stop
returns-in_err-messages-clause-stop c =
    let p = err_from_is_err_and c.from_residual.result c.from_residual.ensures.1 in
    rw (p.1, p.2) (λ names capacity rest declared. c.in_err-messages.ensures.stop names capacity rest)

pub returns-in_err-submission-clause-stop : goal.returns-in_err-submission-clause-stop
returns-in_err-submission-clause-stop c =
    let p = err_from_is_err_and c.from_residual-in_err-submission.result c.from_residual-in_err-submission.ensures.1 in
    rw (p.1, p.2) c.in_err-submission.ensures.stop

pub returns-clause-found : goal.returns-clause-found
returns-clause-found c = λ capacity declared. season_made capacity c.args.bytes.now c.args.declaration c.in_ok-messages.messages c.in_ok-submission.submission declared c.in_ok-messages.ensures.found c.in_ok-submission.ensures.made

pub returns-clause-alone : goal.returns-clause-alone
returns-clause-alone c = λ name capacity rest declared.
    accepts_requests_cause c.one_answer.ensures.one c.one_reading.ensures.all c.one_reading.ensures.all_fault c.one_reading.ensures.all_or_fault c.one_cause.ensures.message c.one_cause.ensures.submission name capacity c.args.bytes.now rest c.in_ok-submission.submission
    (season_made capacity.bytes c.args.bytes.now c.args.declaration c.in_ok-messages.messages c.in_ok-submission.submission declared c.in_ok-messages.ensures.found c.in_ok-submission.ensures.made)
