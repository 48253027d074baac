use Rattle.cost_fixing.proofs.FixLemmas.{left-best, left-none, fixed-best}
use Rattle.cost_fixing.proofs.laws.fixed_best.Goals as goal

pub returns-clause-best : goal.returns-clause-best
returns-clause-best c = λ p prices scale cost y v b most. left-best c.closed_ranges.ensures.cost p prices scale cost v y b most

pub returns-clause-none : goal.returns-clause-none
returns-clause-none c = λ p prices scale cost x v none f. left-none c.closed_ranges.ensures.cost p prices scale cost v none x f

pub returns-clause-tree : goal.returns-clause-tree
returns-clause-tree c = fixed-best c.closed_ranges.ensures.cost c.floored_tree.ensures.listed
