use Rattle.branch_tree.proofs.VisitLemmas.{closed-driven, found-driven, split-driven}
use Rattle.branch_tree.proofs.laws.visited_nodes.Goals as goal

pub returns-clause-closed : goal.returns-clause-closed
returns-clause-closed c = closed-driven

pub returns-clause-found : goal.returns-clause-found
returns-clause-found c = found-driven

pub returns-clause-split : goal.returns-clause-split
returns-clause-split c = split-driven
