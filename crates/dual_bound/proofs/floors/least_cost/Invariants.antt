use Rattle.std.proofs.Common.{◌≡◌, ◌<◌, ◌^◌, []}
use Rattle.finite_sums.specs.Sums.{least_within}
use Rattle.choice_problem.specs.Bounds.{priced_cost}
use Rattle.dual_bound.proofs.floors.least_cost.Given as goal

abbrev pub invariant-loop-alt : goal.invariant-loop-alt
invariant-loop-alt l = record {
  least : l.least ≡ least_within l.low l.alt (λ a. priced_cost l.problem [] 1 l.unit a);
  small : l.least < 2 ^ 24;
}
