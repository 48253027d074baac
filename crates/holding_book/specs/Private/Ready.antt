-- What a room holds: the answer to its ask on its book, and the change, if the book changes.
use Rattle.std.specs.Prelude.{◌≡◌, Option, None}
use Rattle.std.specs.Option.{ForSome}
use Rattle.scr_reader.specs.declared.line.Item.{Item}
use Rattle.holding_book.specs.declared.answer.Answer.{Answer}
use Rattle.holding_book.specs.declared.change.Change.{Change}
use Rattle.holding_book.specs.Books.{SlotBook}
use Rattle.holding_book.specs.Asks.{reply, next}
use Rattle.holding_book.specs.Private.Changes.{IsChange, changed_book}

pub record IsReadyChange (b : SlotBook) (ask : Item) (change : Change) : Type 0 where
  pub is_change : IsChange b change
  pub after : next b ask ≡ changed_book b change

pub record IsReadyRoom (b : SlotBook) (ask : Item) (answer : Answer) (change : Option Change) :
    Type 0 where
  pub answer_is : answer ≡ reply b ask
  pub some : ForSome change (IsReadyChange b ask)
  pub none : change ≡ None → next b ask ≡ b
