use Rattle.choice_problem.proofs.ShapeLemmas.{IsSound-split, IsSound-join, IsSound-IsTree, IsTree-leaf, IsTree-only}
use Rattle.choice_problem.proofs.laws.split_trees.Goals as goal

pub returns-clause-split : goal.returns-clause-split
returns-clause-split c = IsSound-split

pub returns-clause-joined : goal.returns-clause-joined
returns-clause-joined c = IsSound-join

pub returns-clause-shape : goal.returns-clause-shape
returns-clause-shape c = IsSound-IsTree

pub returns-clause-leaf : goal.returns-clause-leaf
returns-clause-leaf c = IsTree-leaf

pub returns-clause-only : goal.returns-clause-only
returns-clause-only c = IsTree-only
