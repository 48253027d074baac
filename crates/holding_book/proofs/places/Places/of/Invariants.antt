use Rattle.std.proofs.Common.{◌≡◌, take}
use Rattle.scr_reader.specs.declared.line.Flight.{Flight}
use Rattle.holding_book.specs.Books.{places_of}
use Rattle.holding_book.specs.Private.Places.{kept_places}
use Rattle.holding_book.proofs.places.Places.of.Given as goal

abbrev pub invariant-loop-n : goal.invariant-loop-n
invariant-loop-n l = (flight : Flight) → kept_places l.places flight ≡ places_of flight (take l.n l.holdings)
