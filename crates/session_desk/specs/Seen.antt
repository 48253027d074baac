-- What a caller has seen of a shared history, at first and later.
use Rattle.std.specs.Prelude.{◌≤◌, List, length}
use Rattle.turn_lock.specs.History.{StartsWith}
use Rattle.holding_book.specs.declared.answer.Entry.{Entry}
use Rattle.holding_book.specs.Histories.{IsLegal}
use Rattle.slot_ledger.specs.declared.shared.Start.{Start}
use Rattle.slot_ledger.specs.Starts.{first_book}

-- it begins with what was seen at first, and is legal where that was
pub record SeenGoesOn {E : Type 0} (Legal : List E → Type 0) (before now : List E) : Type 0 where
  pub begins : StartsWith now before
  pub legal : Legal before → Legal now

-- legal from the book at the start, and no longer than the history may be
abbrev pub IsLedgerHistory : Start → List Entry → Type 0
IsLedgerHistory start history = IsLegal (first_book start) history × (length history ≤ start.most)
