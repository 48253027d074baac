use Rattle.std.proofs.Common.{◌≡◌, ◌*◌, ◌≤◌, ◌^◌}
use Rattle.std.specs.Prelude.{slice_index}
use Rattle.choice_problem.specs.Problems.{limit_of}
use Rattle.price_table.specs.Strips.{worth}
use Rattle.dual_bound.proofs.points.priced_limits.Given as goal

abbrev pub invariant-loop-resource : goal.invariant-loop-resource
invariant-loop-resource l = record {
  total : l.total ≡ worth l.resource (λ r. slice_index l.prices r) (λ r. limit_of l.problem r);
  small : l.total ≤ l.resource * (2 ^ 40 * 999999);
}
