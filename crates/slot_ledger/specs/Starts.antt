-- The book with which a ledger was started, and entries of its callers.
use Rattle.std.specs.Prelude.{ℕ}
use Rattle.scr_reader.specs.declared.line.Item.{Item}
use Rattle.holding_book.specs.declared.answer.Answer.{Answer}
use Rattle.holding_book.specs.declared.answer.Entry.{Entry}
use Rattle.holding_book.specs.Books.{SlotBook}
use Rattle.slot_ledger.specs.declared.shared.Start.{Start}

abbrev pub first_book : Start → SlotBook
first_book start = record { declaration = start.declaration; holdings = start.holdings }

abbrev pub entry_caller : Entry → ℕ
entry_caller entry = entry.caller

-- the entry of a caller's ask
abbrev pub new_entry : ℕ → Item → Answer → Entry
new_entry number ask answer = record { caller = number; ask = ask; answer = answer }
