use Rattle.std.proofs.Common.{◌≡◌, ℕ, ◌<◌, ◌^◌, length}
use Rattle.std.specs.Prelude.{slice_index}
use Rattle.dual_bound.specs.Kept.{price_in}
use Rattle.dual_bound.proofs.kept.spread_prices.Given as goal

abbrev pub invariant-loop-resource : goal.invariant-loop-resource
invariant-loop-resource l = record {
  count : length l.spread.items ≡ l.resource;
  each : (r : ℕ) → r < l.resource → slice_index l.spread.items r ≡ price_in l.ranks l.prices r;
  small : (r : ℕ) → r < l.resource → slice_index l.spread.items r < 2 ^ 40;
}
