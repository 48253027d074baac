use Rattle.choice_problem.proofs.GreedyLemmas.{IsGreedy-feasible, IsGreedyCost-only, FitsOn-same}
use Rattle.choice_problem.proofs.RootLemmas.{IsNodeVector-only, IsNodeVector-IsVector}
use Rattle.choice_problem.proofs.laws.search_start.Goals as goal

pub returns-clause-feasible : goal.returns-clause-feasible
returns-clause-feasible c = IsGreedy-feasible

pub returns-clause-one_cost : goal.returns-clause-one_cost
returns-clause-one_cost c = IsGreedyCost-only

pub returns-clause-one_vector : goal.returns-clause-one_vector
returns-clause-one_vector c = IsNodeVector-only

pub returns-clause-prices : goal.returns-clause-prices
returns-clause-prices c = IsNodeVector-IsVector

pub returns-clause-same_loads : goal.returns-clause-same_loads
returns-clause-same_loads c = FitsOn-same
