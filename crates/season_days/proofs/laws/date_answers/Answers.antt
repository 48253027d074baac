use Rattle.season_days.proofs.AnswerLemmas.{date_is, shared_is, all_is}
use Rattle.season_days.proofs.laws.date_answers.Goals as goal

pub returns-clause-date : goal.returns-clause-date
returns-clause-date c = date_is

pub returns-clause-shared : goal.returns-clause-shared
returns-clause-shared c = shared_is

pub returns-clause-all : goal.returns-clause-all
returns-clause-all c = all_is
