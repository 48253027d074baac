use Rattle.kept_bounds.proofs.ChangeLemmas.{agree-next, agree-all, seen-more}
use Rattle.kept_bounds.proofs.laws.agreeing_ranges.Goals as goal

pub returns-clause-next : goal.returns-clause-next
returns-clause-next c = agree-next

pub returns-clause-all : goal.returns-clause-all
returns-clause-all c = agree-all

pub returns-clause-seen : goal.returns-clause-seen
returns-clause-seen c = seen-more
