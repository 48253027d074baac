use Rattle.schedule_text.proofs.SameLemmas.{time_same, days_same, kind_same}
use Rattle.schedule_text.proofs.laws.one_value.Goals as goal

pub returns-clause-time : goal.returns-clause-time
returns-clause-time c = time_same

pub returns-clause-days : goal.returns-clause-days
returns-clause-days c = days_same

pub returns-clause-kind : goal.returns-clause-kind
returns-clause-kind c = kind_same
