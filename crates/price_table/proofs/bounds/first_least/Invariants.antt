use Rattle.std.proofs.Common.{◌≡◌, ◌<◌, ◌≤◌, ◌^◌}
use Rattle.finite_sums.specs.Sums.{least_within, first_least}
use Rattle.price_table.specs.Loops.{unit_cost}
use Rattle.price_table.proofs.bounds.first_least.Given as goal

abbrev pub invariant-loop-alt : goal.invariant-loop-alt
invariant-loop-alt l = record {
  alt : l.least.alt ≡ first_least l.low l.alt (λ a. unit_cost l.alts l.prices l.scale a);
  cost : l.least.cost ≡ least_within l.low l.alt (λ a. unit_cost l.alts l.prices l.scale a);
  here : l.least.cost ≡ unit_cost l.alts l.prices l.scale l.least.alt;
  there : l.least.alt ≤ l.alt;
  small : l.least.cost < 2 ^ 101;
}
