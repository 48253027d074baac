use Rattle.std.proofs.Common.{◌≡◌, ◌≤◌, ◌*◌, ◌^◌, take}
use Rattle.price_table.specs.Strips.{part_cost}
use Rattle.price_table.proofs.strips.StripPrices.sum.Given as goal

abbrev pub invariant-loop-strip : goal.invariant-loop-strip
invariant-loop-strip l = record {
  total : l.total ≡ part_cost l.fn.self (take l.strip-index l.strips);
  small : l.total ≤ l.strip-index * 2 ^ 96;
  same : l.self ≡ l.fn.self;
}
