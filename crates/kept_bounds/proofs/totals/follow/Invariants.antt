use Rattle.std.proofs.Common.{◌≡◌, drop}
use Rattle.price_table.specs.Totals.{AreTotalsFor}
use Rattle.kept_bounds.specs.Changes.{AgreeBut}
use Rattle.kept_bounds.proofs.totals.follow.Given as goal

abbrev pub invariant-loop-unit : goal.invariant-loop-unit
invariant-loop-unit l = record {
  totals : AreTotalsFor l.problem l.table.prices l.totals;
  scale : l.totals.scale ≡ l.fn.totals.scale;
  others : AgreeBut (drop l.unit-index l.units) l.totals.ranges l.ranges;
}
