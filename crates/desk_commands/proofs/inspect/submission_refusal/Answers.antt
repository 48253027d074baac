use Rattle.std.proofs.Common.{Err, ◌≡◌}
use Rattle.series_model.specs.Submissions.{submission_answer}
use Rattle.series_model.specs.declared.fault.ModelFault.TheVariants.{Memory}
use Rattle.desk_commands.specs.Jobs.{name_at}
use Rattle.desk_commands.proofs.CauseLemmas.{not_memory, judged_submission}
use Rattle.desk_commands.proofs.inspect.submission_refusal.Goals as goal

pub submission_cause-requires-clause-has : goal.submission_cause-requires-clause-has
submission_cause-requires-clause-has c = not_memory c.args.fault Memory c.requires.has c.in_default.not-Memory

pub returns-in_default : goal.returns-in_default
returns-in_default c = λ d messages read answer names capacity rest declared.
    let made : submission_answer d messages ≡ Err c.args.fault = not_memory c.args.fault Memory answer c.in_default.not-Memory in
    rw c.with_cause.ensures
    (judged_submission c.one_answer.ensures.one c.one_reading.ensures.all c.one_reading.ensures.all_fault c.one_reading.ensures.all_or_fault c.one_cause.ensures.message c.one_cause.ensures.submission names (name_at names c.args.place) capacity c.args.bytes.now rest d messages c.args.fault c.submission_cause.result c.submission_stop.result
    declared read made c.submission_cause.ensures (c.submission_stop.ensures names))
