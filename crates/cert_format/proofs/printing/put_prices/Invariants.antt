use Rattle.std.proofs.Common.{◌≡◌, ◌++◌, take}
use Rattle.cert_format.specs.Lines.{text_of}
use Rattle.cert_format.specs.Spelling.{numbered, price_lines}
use Rattle.std.specs.List.{AllByRecursion}
use Rattle.cert_format.specs.Spelling.{PriceFits}
use Rattle.cert_format.proofs.printing.put_prices.Given as goal

abbrev pub invariant-loop-price : goal.invariant-loop-price
invariant-loop-price l = record {
  text : l.out.items ≡ l.fn.out.items ++ text_of (numbered price_lines 0 (take l.price-index l.prices));
  range : AllByRecursion PriceFits (take l.price-index l.prices);
}
