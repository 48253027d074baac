use Rattle.std.proofs.Common.{◌≡◌, ◌*◌, ◌≤◌}
use Rattle.finite_sums.specs.Sums.{sum_below}
use Rattle.choice_problem.specs.declared.problems.TheConstants.{MOST_USES}
use Rattle.cert_checker.specs.KeptLoads.{least_at}
use Rattle.cert_checker.proofs.loads.least_load.Given as goal

abbrev pub invariant-loop-unit : goal.invariant-loop-unit
invariant-loop-unit l = record {
  load : l.load ≡ sum_below l.unit (λ u. least_at l.problem l.ranges l.resource u);
  small : l.load ≤ l.unit * MOST_USES;
}
