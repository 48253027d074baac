use Rattle.std.proofs.Common.{◌≡◌, ◌*◌, ◌<◌, ◌≤◌, ℕ, length, get_or}
use Rattle.finite_sums.specs.Sums.{sum_below}
use Rattle.choice_problem.specs.declared.problems.TheConstants.{MOST_USES}
use Rattle.cert_checker.specs.KeptLoads.{least_at}
use Rattle.cert_checker.proofs.kept_loads.first_kept.Given as goal

abbrev pub invariant-loop-unit : goal.invariant-loop-unit
invariant-loop-unit l = record {
  count : length l.uses.items ≡ l.unit;
  each : (u : ℕ) → u < l.unit → get_or l.uses.items u 0 ≡ least_at l.problem l.ranges l.resource u;
  few : (u : ℕ) → u < l.unit → least_at l.problem l.ranges l.resource u ≤ MOST_USES;
  load : l.load ≡ sum_below l.unit (λ u. least_at l.problem l.ranges l.resource u);
  small : l.load ≤ l.unit * MOST_USES;
}
