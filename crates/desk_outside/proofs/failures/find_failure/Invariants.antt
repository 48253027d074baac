use Rattle.std.proofs.Common.{◌≡◌, drop}
use Rattle.desk_outside.specs.Failures.{failure_at}
use Rattle.desk_outside.proofs.failures.find_failure.Given as goal

abbrev pub invariant-loop-failure : goal.invariant-loop-failure
invariant-loop-failure l = failure_at (drop l.failure-index l.failing) l.call ≡ failure_at l.failing l.call
