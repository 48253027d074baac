use Rattle.std.proofs.Common.{◌≡◌, ◌≤◌, ◌*◌, ◌^◌}
use Rattle.finite_sums.specs.Sums.{sum_below}
use Rattle.price_table.specs.Strips.{run_cost}
use Rattle.price_table.proofs.strips.strip_price.Given as goal

abbrev pub invariant-loop-i : goal.invariant-loop-i
invariant-loop-i l = record {
  summed : l.total ≡ sum_below l.i (λ i. run_cost l.sums l.strip i);
  small : l.total ≤ l.i * 2 ^ 64;
}
