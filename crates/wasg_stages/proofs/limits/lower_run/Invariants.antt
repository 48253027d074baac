use Rattle.std.proofs.Common.{◌≡◌, length}
use Rattle.choice_problem.specs.Loops.{run_uses}
use Rattle.wasg_stages.specs.Steps.{LowersBy}
use Rattle.wasg_stages.proofs.limits.lower_run.Given as goal

abbrev pub invariant-loop-at : goal.invariant-loop-at
invariant-loop-at l = record {
  count : length l.limits ≡ length l.fn.limits;
  lowered : LowersBy l.fn.limits l.limits (λ r. run_uses l.start l.at r);
}
