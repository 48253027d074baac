use Rattle.scr_reader.specs.declared.fault.ScrFault.TheVariants.{Memory}
use Rattle.desk_commands.specs.Jobs.{name_at}
use Rattle.desk_commands.proofs.CauseLemmas.{not_memory, judged_message}
use Rattle.desk_commands.proofs.inspect.message_refusal.Goals as goal

pub message_cause-requires-clause-has : goal.message_cause-requires-clause-has
message_cause-requires-clause-has c = not_memory c.args.fault Memory c.requires.has c.in_default.not-Memory

pub returns-in_default : goal.returns-in_default
returns-in_default c = λ names capacity rest.
    rw c.with_cause.ensures
    (judged_message c.one_answer.ensures.one c.one_reading.ensures.all c.one_reading.ensures.all_fault c.one_reading.ensures.all_or_fault c.one_cause.ensures.message c.one_cause.ensures.submission names (name_at names c.args.place) capacity c.args.bytes.now rest c.args.fault c.message_cause.result c.message_stop.result
    (not_memory c.args.fault Memory c.requires.has c.in_default.not-Memory) c.message_cause.ensures (c.message_stop.ensures names))
