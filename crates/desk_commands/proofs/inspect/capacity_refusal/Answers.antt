use Rattle.capacity_file.specs.declared.fault.CapFault.TheVariants.{Memory}
use Rattle.desk_commands.specs.Jobs.{name_at}
use Rattle.desk_commands.proofs.CauseLemmas.{not_memory, judged_capacity}
use Rattle.desk_commands.proofs.inspect.capacity_refusal.Goals as goal

pub capacity_cause-requires-clause-has : goal.capacity_cause-requires-clause-has
capacity_cause-requires-clause-has c = not_memory c.args.fault Memory c.requires.has c.in_default.not-Memory

pub returns-in_default : goal.returns-in_default
returns-in_default c = λ names rest.
    rw c.with_cause.ensures
    (judged_capacity c.one_answer.ensures.fault c.one_answer.ensures.not_both c.one_cause.ensures.capacity names (name_at names c.args.place) c.args.bytes.now rest c.args.fault c.capacity_cause.result c.capacity_stop.result
    (not_memory c.args.fault Memory c.requires.has c.in_default.not-Memory) c.capacity_cause.ensures (c.capacity_stop.ensures names))
