use Rattle.finite_sums.specs.Sums.{IsFirstLeast}
use Rattle.choice_problem.specs.Problems.{alt_cost}
use Rattle.branch_tree.proofs.kept.first_cheapest.Given as goal

abbrev pub invariant-loop-before : goal.invariant-loop-before
invariant-loop-before l = IsFirstLeast l.low l.before (λ b. alt_cost l.problem l.unit b) l.best
