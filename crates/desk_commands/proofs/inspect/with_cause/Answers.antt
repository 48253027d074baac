use Rattle.desk_commands.proofs.CauseLemmas.{caused_same}
use Rattle.desk_commands.proofs.inspect.with_cause.Goals as goal

pub returns-in_default : goal.returns-in_default
returns-in_default c = caused_same c.args.stop c.args.cause c.in_default.not-OutOfForm c.in_default.not-OverLimit
