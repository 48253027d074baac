use Rattle.std.proofs.Common.{◌<◌}
use Rattle.finite_sums.specs.Sums.{count_below}
use Rattle.choice_problem.specs.Strips.{is_in_run}
use Rattle.season_report.specs.Private.{IsLowest}
use Rattle.season_report.proofs.passed.lowest_in_strip.Given as goal

abbrev pub invariant-loop-i : goal.invariant-loop-i
invariant-loop-i l = IsLowest l.counts l.limits (λ r. 0 < count_below l.i (λ k. is_in_run l.strip r k)) l.lowest
