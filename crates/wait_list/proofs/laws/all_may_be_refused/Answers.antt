use Rattle.wait_list.proofs.ClaimLemmas.{refused-all, never-infeasible}
use Rattle.wait_list.proofs.laws.all_may_be_refused.Goals as goal

pub returns-clause-feasible : goal.returns-clause-feasible
returns-clause-feasible c = refused-all

pub returns-clause-never : goal.returns-clause-never
returns-clause-never c b lines cert w = never-infeasible b lines cert (c.waiting_marks.ensures b lines cert w)
