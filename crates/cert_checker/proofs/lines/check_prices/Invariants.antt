use Rattle.std.proofs.Common.{◌≡◌, ◌+◌, None, drop}
use Rattle.cert_checker.specs.Tests.{price_tests}
use Rattle.cert_checker.specs.Parts.{Completes}
use Rattle.cert_checker.proofs.lines.check_prices.Given as goal

abbrev pub invariant-loop-price : goal.invariant-loop-price
invariant-loop-price l = record {
  place : l.at ≡ l.line + l.price-index;
  leads : Completes l.problem l.cert l.at (price_tests l.before (drop l.price-index l.prices)) l.line (price_tests None l.prices);
}
