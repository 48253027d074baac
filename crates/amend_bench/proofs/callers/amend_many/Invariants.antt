use Rattle.std.proofs.Common.{◌≡◌}
use Rattle.turn_lock.specs.Seats.{IsAtRest}
use Rattle.amend_bench.proofs.callers.amend_many.Given as goal

abbrev pub invariant-loop-step : goal.invariant-loop-step
invariant-loop-step g l =
    IsAtRest l.ledger l.pass × (l.declaration ≡ l.ledger.origin.start.declaration)
