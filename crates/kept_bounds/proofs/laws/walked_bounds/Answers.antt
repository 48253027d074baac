use Rattle.kept_bounds.proofs.KeptLemmas.{kept-more, first-more}
use Rattle.kept_bounds.proofs.laws.walked_bounds.Goals as goal

pub returns-clause-ranges : goal.returns-clause-ranges
returns-clause-ranges c = kept-more

pub returns-clause-first : goal.returns-clause-first
returns-clause-first c = first-more
