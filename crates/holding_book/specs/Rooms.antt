-- What contracts see of a room: the book and the ask for which it was made.
use Rattle.scr_reader.specs.declared.line.Item.{Item}
use Rattle.holding_book.specs.Books.{SlotBook}

pub record RoomView : Type 0 where
  pub book : SlotBook
  pub ask : Item
