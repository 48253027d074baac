-- How a search ends.
use Rattle.std.specs.Prelude.{ℕ, IfSome}
use Rattle.choice_problem.specs.Problems.{ProblemView}
use Rattle.choice_problem.specs.Choices.{IsFeasible}
use Rattle.choice_problem.specs.Bounds.{IsVector}
use Rattle.tested_trees.specs.Closed.{IsClosed, IsClosedAtMost, IsKnownAtMost}
use Rattle.closing_search.specs.declared.endings.Ending.{Ending}
use Rattle.closing_search.specs.declared.endings.Ending.TheVariants as ends

-- the problem is closed, or what is known is a feasible choice, or none, and a vector of the
-- problem
abbrev pub IsEnding : ProblemView → ℕ → Ending → Type 0
IsEnding p budget (ends.Closed closed) = IsClosed p budget closed
IsEnding p budget (ends.Open best vector) = IfSome best (IsFeasible p) × IsVector p vector

-- the best choice, or the best one that is known, costs at most this
abbrev pub EndsAtMost : ProblemView → ℕ → Ending → Type 0
EndsAtMost p most (ends.Closed closed) = IsClosedAtMost most closed
EndsAtMost p most (ends.Open best vector) = IsKnownAtMost p most best
