use Rattle.cost_fixing.specs.Fixings.{left_alts}
use Rattle.cost_fixing.proofs.FixLemmas.{vector-with, vector-of-with}
use Rattle.cost_fixing.proofs.LimitLemmas.{left-units, with-limits, left-table}
use Rattle.cost_fixing.proofs.laws.left_problems.Goals as goal

pub returns-clause-units : goal.returns-clause-units
returns-clause-units c = left-units

pub returns-clause-limits : goal.returns-clause-limits
returns-clause-limits c = λ p prices scale cost v. with-limits p (λ u. left_alts p prices scale cost u) _ v

pub returns-clause-vectors : goal.returns-clause-vectors
returns-clause-vectors c = λ p prices vector scale cost. (
  (λ v. vector-of-with p (λ u. left_alts p prices scale cost u) vector v),
  (λ v. vector-with p (λ u. left_alts p prices scale cost u) vector v),
)

pub returns-clause-tables : goal.returns-clause-tables
returns-clause-tables c = left-table
