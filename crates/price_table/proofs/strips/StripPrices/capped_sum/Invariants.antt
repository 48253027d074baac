use Rattle.std.proofs.Common.{◌≡◌, take}
use Rattle.price_table.specs.Strips.{capped_cost}
use Rattle.price_table.proofs.strips.StripPrices.capped_sum.Given as goal

abbrev pub invariant-loop-strip : goal.invariant-loop-strip
invariant-loop-strip l = record {
  total : l.total ≡ capped_cost l.fn.self (take l.strip-index l.strips);
  same : l.self ≡ l.fn.self;
}
