-- Amendments: messages of asks that are answered one after the other, by one history of a book.
use Rattle.std.specs.Prelude.{◌≡◌, ℕ, List, [], ◌∷◌, ◌++◌, length, codes}
use Rattle.std.specs.List.{concat}
use Rattle.std.specs.Fmt.{decimal}
use Rattle.scr_reader.specs.Streams.{messages_at_end}
use Rattle.holding_book.specs.declared.answer.Entry.{Entry}
use Rattle.holding_book.specs.Books.{SlotBook}
use Rattle.holding_book.specs.Histories.{IsLegal}
use Rattle.amend_run.specs.Amended.{AreAnsweredMessages, FitsThroughout}

-- One history of a book: each answer is the reply that is due at its own place, and the book fits
-- at the start and after each entry.
pub record IsOneHistory (start : SlotBook) (history : List Entry) : Type 0 where
  pub legal : IsLegal start history
  pub fits : FitsThroughout start history

-- how many asks were answered
abbrev pub entries_line : ℕ → List ℕ
entries_line n = codes "ENTRIES " ++ (decimal n ++ (10 ∷ []))

-- The messages of a text, the last of which its end completes, are answered in their order by one
-- history of the book, of caller 0: the answers are the texts of all, one after the other, and what
-- is printed is the number of entries.
pub record AmendsLegally (start : SlotBook) (asks answers text : List ℕ) : Type 0 where
  pub history : List Entry
  pub texts : List (List ℕ)
  pub one : IsOneHistory start history
  pub answered : AreAnsweredMessages start.declaration.season start.declaration.airport 0
      (messages_at_end asks) history texts
  pub written : answers ≡ concat texts
  pub printed : text ≡ entries_line (length history)
