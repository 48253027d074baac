use Rattle.std.proofs.Common.{◌≡◌, ℕ, ◌<◌, [], length}
use Rattle.std.specs.Prelude.{slice_index_or}
use Rattle.choice_problem.specs.Problems.{resource_count}
use Rattle.price_table.specs.Tables.{PricesUnit}
use Rattle.price_table.specs.Strips.{AreSumsOf}
use Rattle.price_table.proofs.tables.units_by_sums.Given as goal

abbrev pub invariant-loop-unit : goal.invariant-loop-unit
invariant-loop-unit l = record {
  count : length l.units.items ≡ l.unit;
  each : (u : ℕ) → u < l.unit → PricesUnit l.problem l.vector u (slice_index_or l.units.items u []);
  sums : AreSumsOf (resource_count l.problem) l.vector l.strips;
}
