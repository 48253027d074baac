use Rattle.cost_fixing.proofs.FixLemmas.{left-choice, whole-back}
use Rattle.cost_fixing.proofs.laws.fixed_choices.Goals as goal

pub returns-clause-below : goal.returns-clause-below
returns-clause-below c = λ p prices scale cost x v f less. left-choice c.closed_ranges.ensures.cost p prices scale cost v x f less

pub returns-clause-back : goal.returns-clause-back
returns-clause-back c = λ p prices scale cost y f. whole-back p prices scale cost y f
