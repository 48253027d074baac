use Rattle.choice_problem.specs.Bounds.{AreRanges}
use Rattle.problem_rows.proofs.problems.ranges.Given as goal

abbrev pub invariant-loop-unit : goal.invariant-loop-unit
invariant-loop-unit g l = AreRanges l.problem l.ranges
