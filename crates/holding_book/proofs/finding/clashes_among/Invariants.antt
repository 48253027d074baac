use Rattle.std.proofs.Common.{◌≡◌, take, false}
use Rattle.std.specs.List.{list_any}
use Rattle.holding_book.specs.Private.Found.{passes_at, clash_but}
use Rattle.holding_book.proofs.finding.clashes_among.Given as goal

abbrev pub invariant-loop-n : goal.invariant-loop-n
invariant-loop-n l = list_any (passes_at (clash_but l.season l.line l.but) l.holdings) (take l.n l.places) ≡ false
