use Rattle.season_days.proofs.CountLemmas.{date_on, date_off, date_end}
use Rattle.season_days.proofs.laws.listed_days.Goals as goal

pub returns-clause-passes : goal.returns-clause-passes
returns-clause-passes c = date_on

pub returns-clause-fails : goal.returns-clause-fails
returns-clause-fails c = date_off

pub returns-clause-ends : goal.returns-clause-ends
returns-clause-ends c = date_end
