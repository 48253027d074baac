use Rattle.season_run.proofs.trials.search_known.Goals as goal

pub returns-clause-outcome : goal.returns-clause-outcome
returns-clause-outcome g c = rw c.in_ok-further.ensures.one at c.in_ok-outcome.ensures.outcome

pub returns-clause-keeps : goal.returns-clause-keeps
returns-clause-keeps g c = c.in_ok-outcome.ensures.start c.requires.budget
