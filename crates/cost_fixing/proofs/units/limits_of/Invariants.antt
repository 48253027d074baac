use Rattle.std.proofs.Common.{◌≡◌, take, map, pos, ◌≤ℤ◌}
use Rattle.std.specs.Prelude.{All}
use Rattle.choice_problem.specs.declared.problems.TheConstants.{HIGHEST_LIMIT}
use Rattle.cost_fixing.proofs.units.limits_of.Given as goal

abbrev pub invariant-loop-resource : goal.invariant-loop-resource
invariant-loop-resource l = record {
  value : l.limits.items ≡ map pos (take l.resource l.problem.limits);
  to : All (λ z. z ≤ℤ HIGHEST_LIMIT) l.limits.items;
}
