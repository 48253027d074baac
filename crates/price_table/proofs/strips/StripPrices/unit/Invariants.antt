use Rattle.std.proofs.Common.{◌≡◌, map, take}
use Rattle.price_table.specs.Strips.{capped_cost}
use Rattle.price_table.proofs.strips.StripPrices.unit.Given as goal

abbrev pub invariant-loop-part : goal.invariant-loop-part
invariant-loop-part l = record {
  parts : l.parts.items ≡ map (λ strips. capped_cost l.fn.self strips) (take l.part-index l.part-items);
  same : l.self ≡ l.fn.self;
}
