use Rattle.season_days.proofs.SeasonLemmas.{is_on-week, is_on-seasons, is_on-every}
use Rattle.season_days.proofs.laws.weekday_sets.Goals as goal

pub returns-clause-week : goal.returns-clause-week
returns-clause-week c = is_on-week

pub returns-clause-every : goal.returns-clause-every
returns-clause-every c = is_on-every

pub returns-clause-seasons : goal.returns-clause-seasons
returns-clause-seasons c = is_on-seasons
