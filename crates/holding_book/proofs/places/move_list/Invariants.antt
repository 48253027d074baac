use Rattle.std.proofs.Common.{◌≡◌, ◌++◌, take, drop, map}
use Rattle.holding_book.specs.Private.Places.{moved}
use Rattle.holding_book.proofs.places.move_list.Given as goal

abbrev pub invariant-loop-place : goal.invariant-loop-place
invariant-loop-place l = l.places ≡ map (moved l.at l.count) (take l.place-index l.initial.places) ++ drop l.place-index l.initial.places
