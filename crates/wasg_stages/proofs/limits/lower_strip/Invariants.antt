use Rattle.std.proofs.Common.{◌≡◌, length}
use Rattle.finite_sums.specs.Sums.{count_below}
use Rattle.choice_problem.specs.Strips.{is_in_run}
use Rattle.wasg_stages.specs.Steps.{LowersBy}
use Rattle.wasg_stages.proofs.limits.lower_strip.Given as goal

abbrev pub invariant-loop-i : goal.invariant-loop-i
invariant-loop-i l = record {
  count : length l.limits ≡ length l.fn.limits;
  lowered : LowersBy l.fn.limits l.limits (λ r. count_below l.i (λ i. is_in_run l.strip r i));
}
