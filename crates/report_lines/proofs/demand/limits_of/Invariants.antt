use Rattle.std.proofs.Common.{◌≡◌, take}
use Rattle.report_lines.proofs.demand.limits_of.Given as goal

abbrev pub invariant-loop-resource : goal.invariant-loop-resource
invariant-loop-resource l = l.limits.items ≡ take l.resource l.problem.limits
