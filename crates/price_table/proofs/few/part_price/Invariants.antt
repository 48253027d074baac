use Rattle.std.proofs.Common.{◌≡◌, take}
use Rattle.price_table.specs.Private.Few.{capped_priced}
use Rattle.price_table.proofs.few.part_price.Given as goal

abbrev pub invariant-loop-strip : goal.invariant-loop-strip
invariant-loop-strip l = l.total ≡ capped_priced l.prices (take l.strip-index l.strip-items)
