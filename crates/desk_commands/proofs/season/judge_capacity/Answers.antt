use Rattle.desk_commands.specs.Jobs.{name_at}
use Rattle.desk_commands.proofs.LeadLemmas.{by_property}
use Rattle.desk_commands.proofs.JudgementLemmas.{accepts_capacity, refuses_capacity}
use Rattle.desk_commands.proofs.season.judge_capacity.Goals as goal

pub returns-in-Ok-clause-alone : goal.returns-in-Ok-clause-alone
returns-in-Ok-clause-alone c = λ name rest. accepts_capacity c.one_answer.ensures.fault c.one_answer.ensures.not_both name c.args.bytes.now rest c.in-Ok.declaration c.in-Ok.ensures.found

pub returns-in-Err-clause-stop : goal.returns-in-Err-clause-stop
returns-in-Err-clause-stop c = λ names rest. by_property names _ _ c.capacity_stop.result
    (λ why is. refuses_capacity c.one_answer.ensures.fault c.one_answer.ensures.not_both (name_at names c.args.place) c.args.bytes.now rest c.in-Err.fault why c.in-Err.ensures.fault is)
    (c.capacity_stop.ensures names)
