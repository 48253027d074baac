use Rattle.season_maker.proofs.DayLemmas.{days, dates}
use Rattle.season_maker.proofs.laws.season_dates.Goals as goal

pub returns-clause-count : goal.returns-clause-count
returns-clause-count c = days

pub returns-clause-text : goal.returns-clause-text
returns-clause-text c = dates
