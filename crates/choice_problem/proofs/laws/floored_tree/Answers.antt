use Rattle.choice_problem.proofs.FloorLemmas.{floored-least, floors-least}
use Rattle.choice_problem.proofs.laws.floored_tree.Goals as goal

pub returns-clause-closed : goal.returns-clause-closed
returns-clause-closed c = floored-least

pub returns-clause-listed : goal.returns-clause-listed
returns-clause-listed c = floors-least
