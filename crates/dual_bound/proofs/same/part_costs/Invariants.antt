use Rattle.std.proofs.Common.{◌≡◌}
use Rattle.dual_bound.specs.Same.{AreCostsTo}
use Rattle.dual_bound.proofs.same.part_costs.Given as goal

abbrev pub invariant-loop-unit : goal.invariant-loop-unit
invariant-loop-unit l = record {
  costs : AreCostsTo l.problem l.fn.strips l.unit l.units.items;
  same : l.strips ≡ l.fn.strips;
}
