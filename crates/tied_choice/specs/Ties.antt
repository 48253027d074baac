-- Choices of the same cost.
use Rattle.std.specs.Prelude.{◌≡◌, ℕ, List}
use Rattle.choice_problem.specs.Problems.{ProblemView}
use Rattle.choice_problem.specs.Choices.{IsFeasible, choice_cost}

-- a feasible choice that costs as much as another one
pub record IsTie (p : ProblemView) (x z : List ℕ) : Type 0 where
  pub feasible : IsFeasible p z
  pub cost : choice_cost p z ≡ choice_cost p x
