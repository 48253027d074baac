-- Histories of a book: what was asked and answered, one after the other.
use Rattle.std.specs.Prelude.{◌≡◌, List, [], ◌∷◌}
use Rattle.holding_book.specs.declared.answer.Entry.{Entry}
use Rattle.holding_book.specs.Books.{SlotBook}
use Rattle.holding_book.specs.Asks.{reply, next}

-- the book after all that was asked
abbrev pub replay : SlotBook → List Entry → SlotBook
replay b [] = b
replay b (entry ∷ later) = replay (next b entry.ask) later

-- each answer is the one that is due on the book at its place
abbrev pub IsLegal : SlotBook → List Entry → Type 0
IsLegal b [] = Unit {0}
IsLegal b (entry ∷ later) = (entry.answer ≡ reply b entry.ask) × IsLegal (next b entry.ask) later
