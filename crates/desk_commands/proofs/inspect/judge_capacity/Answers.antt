use Rattle.desk_commands.proofs.CauseLemmas.{accepts_capacity_cause}
use Rattle.desk_commands.proofs.inspect.judge_capacity.Goals as goal

pub returns-in-Ok-clause-alone : goal.returns-in-Ok-clause-alone
returns-in-Ok-clause-alone c = λ name rest. accepts_capacity_cause c.one_answer.ensures.fault c.one_answer.ensures.not_both c.one_cause.ensures.capacity name c.args.bytes.now rest c.in-Ok.declaration c.in-Ok.ensures.found
