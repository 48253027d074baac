use Rattle.std.proofs.Common.{◌≡◌, ◌++◌, take, drop, map}
use Rattle.holding_book.specs.Private.Places.{moved, place_lists}
use Rattle.holding_book.proofs.places.move_lists.Given as goal

abbrev pub invariant-loop-list : goal.invariant-loop-list
invariant-loop-list l = place_lists l.lists ≡ map (map (moved l.at l.count)) (take l.list-index (place_lists l.initial.lists)) ++ drop l.list-index (place_lists l.initial.lists)
