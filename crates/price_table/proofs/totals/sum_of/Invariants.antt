use Rattle.std.proofs.Common.{◌≡◌, ◌≤◌, ◌*◌, ◌^◌}
use Rattle.std.specs.Prelude.{slice_index}
use Rattle.finite_sums.specs.Sums.{sum_below}
use Rattle.price_table.proofs.totals.sum_of.Given as goal

abbrev pub invariant-loop-number : goal.invariant-loop-number
invariant-loop-number l = record {
  summed : l.total ≡ sum_below l.number-index (λ u. slice_index l.numbers u);
  small : l.total ≤ l.number-index * 2 ^ 101;
}
