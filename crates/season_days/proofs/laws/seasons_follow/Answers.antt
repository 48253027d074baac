use Rattle.season_days.proofs.SeasonLemmas.{season_after-first}
use Rattle.season_days.proofs.laws.seasons_follow.Goals as goal

pub returns : goal.returns
returns c = season_after-first
