use Rattle.std.proofs.Common.{◌≡◌, ℕ, ◌<◌, ◌^◌, length}
use Rattle.std.specs.Prelude.{slice_index}
use Rattle.price_table.specs.Strips.{unit_least}
use Rattle.price_table.proofs.totals.leasts_of.Given as goal

abbrev pub invariant-loop-unit : goal.invariant-loop-unit
invariant-loop-unit l = record {
  count : length l.least.items ≡ l.unit;
  each : (u : ℕ) → u < l.unit → slice_index l.least.items u ≡ unit_least l.problem l.ranges l.table.prices l.scale u;
  small : (u : ℕ) → u < l.unit → slice_index l.least.items u < 2 ^ 101;
}
