use Rattle.std.proofs.Common.{◌≡◌, take}
use Rattle.std.specs.List.{flat_map}
use Rattle.holding_book.specs.Private.Found.{held_at}
use Rattle.holding_book.proofs.finding.held_among.Given as goal

abbrev pub invariant-loop-n : goal.invariant-loop-n
invariant-loop-n l = l.found.items ≡ flat_map (held_at l.holdings) (take l.n l.places)
