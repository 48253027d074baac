use Rattle.std.proofs.Common.{◌≡◌, ℕ, ◌<◌, length}
use Rattle.std.specs.Prelude.{slice_index}
use Rattle.choice_problem.specs.Problems.{chooser_at, part_at}
use Rattle.price_table.specs.Strips.{capped_cost}
use Rattle.dual_bound.proofs.same.unit_costs.Given as goal

abbrev pub invariant-loop-number : goal.invariant-loop-number
invariant-loop-number l = record {
  count : length l.costs.items ≡ l.number;
  each : (n : ℕ) → n < l.number → slice_index l.costs.items n ≡ capped_cost l.fn.strips (part_at (chooser_at l.problem l.unit) n);
  same : l.strips ≡ l.fn.strips;
}
