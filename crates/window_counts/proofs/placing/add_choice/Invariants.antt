use Rattle.std.proofs.Common.{◌≡◌, ℕ, ◌*◌, ◌<◌, ◌≤◌, length, slice_index}
use Rattle.finite_sums.specs.Sums.{sum_below}
use Rattle.choice_problem.specs.Problems.{IsChooser, chooser_at, alt_cost, alt_uses, resource_count}
use Rattle.window_counts.proofs.placing.add_choice.Given as goal

abbrev pub invariant-loop-unit : goal.invariant-loop-unit
invariant-loop-unit l = record {
  cost_is : l.cost ≡ sum_below l.unit (λ u. alt_cost l.problem u (slice_index l.alts u));
  small : l.cost ≤ l.unit * 16777216;
  count : length l.loads ≡ resource_count l.problem;
  loaded : (r : ℕ) → r < resource_count l.problem → slice_index l.loads r ≡ sum_below l.unit (λ u. alt_uses l.problem u (slice_index l.alts u) r);
  few : (r : ℕ) → r < resource_count l.problem → slice_index l.loads r ≤ l.unit * 434;
  units : (u : ℕ) → u < l.unit → IsChooser (chooser_at l.problem u);
}
