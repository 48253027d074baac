use Rattle.std.proofs.Common.{◌≡◌, take}
use Rattle.season_days.specs.Capacity.{capacity_of}
use Rattle.holding_book.specs.Books.{held_movements}
use Rattle.holding_book.specs.Private.Loads.{AreLeft}
use Rattle.holding_book.proofs.start.take_all.Given as goal

abbrev pub invariant-loop-n : goal.invariant-loop-n
invariant-loop-n l = record {
  declaration : l.loads.declaration ≡ l.fn.loads.declaration;
  left : AreLeft (capacity_of l.fn.loads.declaration) (held_movements l.fn.loads.declaration.season (take l.n l.holdings)) l.loads.left;
}
