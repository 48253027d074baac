use Rattle.choice_problem.proofs.RootLemmas.{vector_of-IsVector, step_lengths-le}
use Rattle.choice_problem.proofs.laws.price_vectors.Goals as goal

pub returns-clause-valid : goal.returns-clause-valid
returns-clause-valid c = vector_of-IsVector

pub returns-clause-steps : goal.returns-clause-steps
returns-clause-steps c = step_lengths-le
