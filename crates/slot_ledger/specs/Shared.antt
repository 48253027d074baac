-- What lies behind the turn: a book, the history that led to it, and what is kept beside that.
use Rattle.std.specs.Prelude.{◌≡◌, ◌+◌, ◌*◌, ◌<◌, ◌≤◌, ◌^◌, List, length, All}
use Rattle.holding_book.specs.declared.answer.Entry.{Entry}
use Rattle.holding_book.specs.Books.{BookView}
use Rattle.holding_book.specs.Asks.{CanAsk}
use Rattle.holding_book.specs.Histories.{replay, IsLegal}
use Rattle.slot_ledger.specs.Starts.{first_book}
use Rattle.slot_ledger.specs.declared.shared.Start.{Start}

-- what contracts see
pub record SharedView (B : Type 0) : Type 0 where
  pub start : Start
  pub history : List Entry
  pub beside : B

-- The book is the replay of the history from the one at the start, and the history is legal from
-- that and no longer than it may be. Each of its asks can be asked. Each entry adds at most three
-- holdings, so they stay few.
pub record IsReplayed (start : Start) (book : BookView) (history : List Entry) : Type 0 where
  pub replayed : book.book ≡ replay (first_book start) history
  pub legal : IsLegal (first_book start) history
  pub few : length history ≤ start.most
  pub bounded : start.most ≤ 100000
  pub small : length start.holdings < 2 ^ 31
  pub grown : length book.book.holdings ≤ length start.holdings + 3 * length history
  pub declared : book.book.declaration ≡ start.declaration
  pub asked : All (λ (entry : Entry). CanAsk start.declaration entry.ask) history
