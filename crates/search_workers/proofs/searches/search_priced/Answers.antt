use Rattle.search_workers.proofs.searches.search_priced.Goals as goal

pub returns-clause-outcome : goal.returns-clause-outcome
returns-clause-outcome g c = rw c.in_ok-task.ensures.problem at c.search_task.ensures.outcome

pub returns-clause-settled : goal.returns-clause-settled
returns-clause-settled g c = rw c.in_ok-task.ensures.problem at c.search_task.ensures.settled

pub returns-clause-start : goal.returns-clause-start
returns-clause-start g c = rw c.in_ok-task.ensures.problem at c.search_task.ensures.start

pub search_task-requires-clause-start : goal.search_task-requires-clause-start
search_task-requires-clause-start g c = λ κs lives. rw c.in_ok-task.ensures.problem c.requires.start
