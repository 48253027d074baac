use Rattle.std.proofs.Common.{◌≡◌, ◌≤◌, ◌*◌, ◌-◌, ◌^◌, slice_index}
use Rattle.finite_sums.specs.Sums.{sum_below}
use Rattle.choice_problem.specs.Problems.{alt_cost}
use Rattle.choice_problem.proofs.choices.cost_of.Given as goal

abbrev pub invariant-loop-unit : goal.invariant-loop-unit
invariant-loop-unit l = record {
  summed : l.cost ≡ sum_below l.unit (λ u. alt_cost l.problem u (slice_index l.choice u));
  small : l.cost ≤ l.unit * (2 ^ 24 - 1);
}
