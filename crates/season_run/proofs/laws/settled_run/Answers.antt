use Rattle.std.proofs.Common.{[]}
use Rattle.season_run.proofs.SeasonLemmas.{none-open}
use Rattle.season_run.proofs.laws.settled_run.Goals as goal

pub returns : goal.returns
returns c s budget cert run enough = none-open s.declaration s.units budget [] cert.stages run.stages enough
