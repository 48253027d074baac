use Rattle.std.proofs.Common.{◌≡◌, take}
use Rattle.holding_book.specs.Books.{places_of}
use Rattle.holding_book.proofs.listing.list_places.Given as goal

abbrev pub invariant-loop-n : goal.invariant-loop-n
invariant-loop-n l = l.places.items ≡ places_of l.flight (take l.n l.holdings)
