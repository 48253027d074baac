use Rattle.std.proofs.lemmas.Result.{err_from_is_err_and}
use Rattle.desk_commands.specs.Jobs.{name_at}
use Rattle.desk_commands.proofs.LeadLemmas.{by_property}
use Rattle.desk_commands.proofs.JudgementLemmas.{season_made, accepts_requests, refuses_message, refuses_submission}
use Rattle.desk_commands.proofs.season.judge_requests.Goals as goal

pub returns-in_err-messages-clause-stop : goal.returns-in_err-messages-clause-stop
returns-in_err-messages-clause-stop c =
    let p = err_from_is_err_and c.from_residual.result c.from_residual.ensures.1 in
    let h = c.in_err-messages.ensures.stop in
    rw (p.1, p.2) (λ names capacity rest declared. by_property names _ _ c.in_err-messages.field-0.0
    (λ why is. refuses_message c.one_answer.ensures.one c.one_reading.ensures.all c.one_reading.ensures.all_fault c.one_reading.ensures.all_or_fault (name_at names c.args.place) capacity c.args.bytes.now rest h.0 why h.1 is)
    (h.2 names))

pub returns-in_err-submission-clause-stop : goal.returns-in_err-submission-clause-stop
returns-in_err-submission-clause-stop c =
    let p = err_from_is_err_and c.from_residual-in_err-submission.result c.from_residual-in_err-submission.ensures.1 in
    let h = c.in_err-submission.ensures.stop in
    rw (p.1, p.2) (λ names capacity rest declared. by_property names _ _ c.in_err-submission.field-0.0
    (λ why is. refuses_submission c.one_answer.ensures.one c.one_reading.ensures.all c.one_reading.ensures.all_fault c.one_reading.ensures.all_or_fault (name_at names c.args.place) capacity c.args.bytes.now rest c.args.declaration c.in_ok-messages.messages h.0 why declared c.in_ok-messages.ensures.found h.1 is)
    (h.2 names))

pub returns-clause-found : goal.returns-clause-found
returns-clause-found c = λ capacity declared. season_made capacity c.args.bytes.now c.args.declaration c.in_ok-messages.messages c.in_ok-submission.submission declared c.in_ok-messages.ensures.found c.in_ok-submission.ensures.made

pub returns-clause-alone : goal.returns-clause-alone
returns-clause-alone c = λ name capacity rest declared.
    accepts_requests c.one_answer.ensures.one c.one_reading.ensures.all c.one_reading.ensures.all_fault c.one_reading.ensures.all_or_fault name capacity c.args.bytes.now rest c.in_ok-submission.submission
    (season_made capacity.bytes c.args.bytes.now c.args.declaration c.in_ok-messages.messages c.in_ok-submission.submission declared c.in_ok-messages.ensures.found c.in_ok-submission.ensures.made)
