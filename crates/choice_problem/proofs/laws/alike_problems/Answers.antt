use Rattle.choice_problem.proofs.AlikeLemmas.{AreAlike-sym, same_whole, choice_cost-alike, IsFeasible-alike, IsBest-alike, HasNone-alike, AreRanges-alike, IsVector-alike, bound_of-alike, NodeHolds-alike, AreSound-alike, IsFloored-alike, AreFloors-alike}
use Rattle.choice_problem.proofs.AlikeTreeLemmas.{IsGreedyCost-alike, IsNodeVector-alike, AreDriven-alike, IsDriven-alike}
use Rattle.choice_problem.proofs.laws.alike_problems.Goals as goal

pub returns-clause-back : goal.returns-clause-back
returns-clause-back c = AreAlike-sym

pub returns-clause-whole : goal.returns-clause-whole
returns-clause-whole c = same_whole

pub returns-clause-cost : goal.returns-clause-cost
returns-clause-cost c = choice_cost-alike

pub returns-clause-feasible : goal.returns-clause-feasible
returns-clause-feasible c = IsFeasible-alike

pub returns-clause-best : goal.returns-clause-best
returns-clause-best c = IsBest-alike

pub returns-clause-none : goal.returns-clause-none
returns-clause-none c = HasNone-alike

pub returns-clause-ranges : goal.returns-clause-ranges
returns-clause-ranges c = AreRanges-alike

pub returns-clause-vector : goal.returns-clause-vector
returns-clause-vector c = IsVector-alike

pub returns-clause-bound : goal.returns-clause-bound
returns-clause-bound c = bound_of-alike

pub returns-clause-node : goal.returns-clause-node
returns-clause-node c = NodeHolds-alike

pub returns-clause-sound : goal.returns-clause-sound
returns-clause-sound c = AreSound-alike

pub returns-clause-floored : goal.returns-clause-floored
returns-clause-floored c = IsFloored-alike

pub returns-clause-floors : goal.returns-clause-floors
returns-clause-floors c = AreFloors-alike

pub returns-clause-greedy : goal.returns-clause-greedy
returns-clause-greedy c = IsGreedyCost-alike

pub returns-clause-node_vector : goal.returns-clause-node_vector
returns-clause-node_vector c = IsNodeVector-alike

pub returns-clause-driven_nodes : goal.returns-clause-driven_nodes
returns-clause-driven_nodes c = AreDriven-alike

pub returns-clause-driven : goal.returns-clause-driven
returns-clause-driven c = IsDriven-alike
