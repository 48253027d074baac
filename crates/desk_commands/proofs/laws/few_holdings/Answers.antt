use Rattle.desk_commands.proofs.AmendLemmas.{start_few}
use Rattle.desk_commands.proofs.laws.few_holdings.Goals as goal

pub returns : goal.returns
returns c = start_few
