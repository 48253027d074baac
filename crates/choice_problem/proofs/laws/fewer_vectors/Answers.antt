use Rattle.choice_problem.proofs.NamedLemmas.{AreSound-fewer, AreDriven-fewer, IsDriven-fewer, AreFloors-fewer}
use Rattle.choice_problem.proofs.laws.fewer_vectors.Goals as goal

pub returns-clause-sound : goal.returns-clause-sound
returns-clause-sound c = AreSound-fewer

pub returns-clause-driven_nodes : goal.returns-clause-driven_nodes
returns-clause-driven_nodes c = AreDriven-fewer

pub returns-clause-driven : goal.returns-clause-driven
returns-clause-driven c = IsDriven-fewer

pub returns-clause-floors : goal.returns-clause-floors
returns-clause-floors c = AreFloors-fewer
