use Rattle.std.proofs.Common.{◌+◌, ◌*◌, ◌≤◌, drop}
use Rattle.choice_problem.specs.declared.problems.TheConstants.{MOST_USES}
use Rattle.cert_checker.proofs.LoadLemmas.{IsMixed}
use Rattle.cert_checker.proofs.loads.load_now.Given as goal

abbrev pub invariant-loop-unit : goal.invariant-loop-unit
invariant-loop-unit l = record {
  mixed : IsMixed l.problem l.whole l.ranges l.resource (drop l.unit-index l.changed) l.now;
  small : l.now ≤ l.load + l.unit-index * MOST_USES;
}
