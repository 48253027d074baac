use Rattle.cost_fixing.proofs.FixLemmas.{out-closes, none-out}
use Rattle.cost_fixing.proofs.laws.out_alternatives.Goals as goal

pub returns-clause-closes : goal.returns-clause-closes
returns-clause-closes c = out-closes

pub returns-clause-none : goal.returns-clause-none
returns-clause-none c = λ p prices scale cost x u v f less l. none-out c.closed_ranges.ensures.cost p prices scale cost v x u f less l
