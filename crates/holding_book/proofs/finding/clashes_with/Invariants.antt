use Rattle.std.proofs.Common.{◌≡◌, take, false}
use Rattle.holding_book.specs.Books.{clashes_with}
use Rattle.holding_book.proofs.finding.clashes_with.Given as goal

abbrev pub invariant-loop-holding : goal.invariant-loop-holding
invariant-loop-holding l = clashes_with l.season l.line (take l.holding-index l.holdings) ≡ false
