use Rattle.std.proofs.Common.{take}
use Rattle.holding_book.specs.Private.Levels.{IsNextLevel}
use Rattle.holding_book.proofs.levels.next_level.Given as goal

abbrev pub invariant-loop-cost : goal.invariant-loop-cost
invariant-loop-cost l = record {
  least : IsNextLevel l.last (take l.cost-index l.costs) l.least;
}
