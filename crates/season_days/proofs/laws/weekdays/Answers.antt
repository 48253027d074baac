use Rattle.season_days.proofs.SeasonLemmas.{weekday_on-first, weekday_on-next, weekday_on-bounds}
use Rattle.season_days.proofs.laws.weekdays.Goals as goal

pub returns-clause-first : goal.returns-clause-first
returns-clause-first c = weekday_on-first

pub returns-clause-next : goal.returns-clause-next
returns-clause-next c = weekday_on-next

pub returns-clause-bounds : goal.returns-clause-bounds
returns-clause-bounds c = weekday_on-bounds
