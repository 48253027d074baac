use Rattle.season_days.proofs.SeasonLemmas.{date_count_large, date_count_small, date_count-weeks, date_count-after}
use Rattle.season_days.proofs.laws.lengths.Goals as goal

pub returns-clause-bounds : goal.returns-clause-bounds
returns-clause-bounds c = λ season. (date_count_large season, date_count_small season)

pub returns-clause-weeks : goal.returns-clause-weeks
returns-clause-weeks c = date_count-weeks

pub returns-clause-after : goal.returns-clause-after
returns-clause-after c = date_count-after
