use Rattle.std.proofs.Common.{◌≡◌}
use Rattle.problem_rows.proofs.visits.go.Given as goal

abbrev pub invariant-loop-unit : goal.invariant-loop-unit
invariant-loop-unit g l = l.walk.problem ≡ l.problem
