use Rattle.std.proofs.Common.{◌∙◌}
use Rattle.choice_problem.proofs.ProblemLemmas.{map-pos-amount}
use Rattle.choice_problem.proofs.problems.Problem.limits.Goals as goal

pub returns-clause-value : goal.returns-clause-value
returns-clause-value c = rw (← c.self.view_is) (c.deref.ensures.value ∙ map-pos-amount c.self.inside.limits.items c.self.invariant.limits_from)
