use Rattle.std.proofs.Common.{◌≡◌, map}
use Rattle.std.specs.List.{range_with_len}
use Rattle.choice_problem.specs.Bounds.{whole_of}
use Rattle.price_table.specs.Totals.{AreTotalsFor}
use Rattle.cost_fixing.specs.Fixings.{left_alts}
use Rattle.cost_fixing.proofs.numbers.numbers_by.Given as goal

abbrev pub invariant-loop-unit : goal.invariant-loop-unit
invariant-loop-unit l = record {
  totals : AreTotalsFor l.problem l.table.prices l.totals;
  whole : l.totals.ranges ≡ whole_of l.problem;
  scale : l.totals.scale ≡ l.fn.totals.scale;
  units : l.units.items ≡ map (λ u. left_alts l.problem l.table.prices l.fn.totals.scale l.cost u) (range_with_len 0 l.unit);
}
