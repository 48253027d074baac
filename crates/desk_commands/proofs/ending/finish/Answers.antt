use Rattle.std.proofs.Common.{Result, subst}
use Rattle.std.specs.Prelude.{IfOk, IfErr}
use Rattle.desk_commands.specs.Ends.{IsDoneBy, JobStopsBy}
use Rattle.desk_commands.specs.declared.stop.Answer.{Answer}
use Rattle.desk_commands.specs.declared.stop.Stop.{Stop}
use Rattle.desk_commands.proofs.AnswerLemmas.{done_answer, job_stop_ended, job_stop_asked}
use Rattle.desk_commands.proofs.ending.finish.Goals as goal

pub returns-in-Ok-clause-answer : goal.returns-in-Ok-clause-answer
returns-in-Ok-clause-answer c = λ job w change v done stop.
    done_answer job w change v c.in-Ok.answer.status c.in-Ok.answer.text.items
    (subst (λ (r : Result Answer Stop). IfOk r (λ a. IsDoneBy job w change a.status a.text.items v)) c.in-Ok.is done)

pub returns-in-Ok-clause-asked : goal.returns-in-Ok-clause-asked
returns-in-Ok-clause-asked c = λ job w change v done stop.
    let is = subst (λ (r : Result Answer Stop). IfOk r (λ a. IsDoneBy job w change a.status a.text.items v)) c.in-Ok.is done in
    is.asked

pub returns-in_ok-answer-in-Err-clause-answer : goal.returns-in_ok-answer-in-Err-clause-answer
returns-in_ok-answer-in-Err-clause-answer c = λ job w change v done stop.
    let h = c.in_ok-answer-in-Err.ensures in
    let why = subst (λ (r : Result Answer Stop). IfErr r (λ s. JobStopsBy c.args.names.now job w change s v)) c.in-Err.is stop in
    let e = job_stop_ended job w change v c.args.names.now c.in-Err.stop h.0 why h.1 in
    record { report = h.0; status_is = h.2; text_is = h.3; ends = e.0; exact = e.1 }

pub returns-in_ok-answer-in-Err-clause-asked : goal.returns-in_ok-answer-in-Err-clause-asked
returns-in_ok-answer-in-Err-clause-asked c = λ job w change v done stop.
    job_stop_asked job w change v c.args.names.now c.in-Err.stop (subst (λ (r : Result Answer Stop). IfErr r (λ s. JobStopsBy c.args.names.now job w change s v)) c.in-Err.is stop)

pub returns-in_err-answer-in-Err-clause-asked : goal.returns-in_err-answer-in-Err-clause-asked
returns-in_err-answer-in-Err-clause-asked c = λ job w change v done stop.
    job_stop_asked job w change v c.args.names.now c.in-Err.stop (subst (λ (r : Result Answer Stop). IfErr r (λ s. JobStopsBy c.args.names.now job w change s v)) c.in-Err.is stop)
