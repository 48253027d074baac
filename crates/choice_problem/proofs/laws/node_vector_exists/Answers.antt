use Rattle.choice_problem.proofs.RootLemmas.{node_vector}
use Rattle.choice_problem.proofs.laws.node_vector_exists.Goals as goal

pub returns : goal.returns
returns c = node_vector
