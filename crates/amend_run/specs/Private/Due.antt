-- The answers that are due to items one after the other, and what comes of messages.
use Rattle.std.specs.Prelude.{◌≡◌, ℕ, ◌+◌, List, [], ◌∷◌, ◌++◌, All, length, Option, Some, None}
use Rattle.std.specs.List.{concat}
use Rattle.slot_text.specs.declared.station.Station.{Station}
use Rattle.season_days.specs.Term.{Term}
use Rattle.scr_reader.specs.Messages.{header_of}
use Rattle.scr_reader.specs.declared.header.Header.{Header}
use Rattle.scr_reader.specs.declared.message.Message.{Message}
use Rattle.scr_reader.specs.declared.message.Placed.{Placed}
use Rattle.holding_book.specs.declared.answer.Answer.{Answer}
use Rattle.holding_book.specs.declared.answer.Entry.{Entry}
use Rattle.holding_book.specs.Books.{SlotBook}
use Rattle.holding_book.specs.Asks.{CanAsk, reply, next}
use Rattle.holding_book.specs.Histories.{replay, IsLegal}
use Rattle.scr_replies.specs.Received.{IsGoodMessage, IsBadAt, IsAnsweredMessage}
use Rattle.amend_run.specs.Amended.{AreAnsweredMessages}

-- ---- items

abbrev pub due_answers : SlotBook → List Placed → List Answer
due_answers b [] = []
due_answers b (placed ∷ items) = reply b placed.item ∷ due_answers (next b placed.item) items

abbrev pub book_after : SlotBook → List Placed → SlotBook
book_after b [] = b
book_after b (placed ∷ items) = book_after (next b placed.item) items

-- the entry of an ask that was answered on a book
abbrev pub due_entry : SlotBook → Placed → Entry
due_entry b placed = record { caller = 0; ask = placed.item; answer = reply b placed.item }

abbrev pub due_entries : SlotBook → List Placed → List Entry
due_entries b [] = []
due_entries b (placed ∷ items) = due_entry b placed ∷ due_entries (next b placed.item) items

-- ---- messages

-- what was written before the message and after it, the entries before it and with it, and the book
-- after
pub record IsMessageStep (b : SlotBook) (lines : List (List ℕ)) (before written : List ℕ)
    (past history : List Entry) (after : SlotBook) : Type 0 where
  pub own : List Entry
  pub text : List ℕ
  pub legal : IsLegal b own
  pub can : All (λ (entry : Entry). CanAsk b.declaration entry.ask) own
  pub answered : IsAnsweredMessage b.declaration.season b.declaration.airport 0 lines own text
  pub book : after ≡ replay b own
  pub written_is : written ≡ before ++ text
  pub history_is : history ≡ past ++ own

-- the text of all replies to messages, their entries, and the book after them
pub record IsRun (b : SlotBook) (messages : List (List (List ℕ))) (text : List ℕ)
    (history : List Entry) (after : SlotBook) : Type 0 where
  pub texts : List (List ℕ)
  pub legal : IsLegal b history
  pub can : All (λ (entry : Entry). CanAsk b.declaration entry.ask) history
  pub answered : AreAnsweredMessages b.declaration.season b.declaration.airport 0 messages
      history texts
  pub book : after ≡ replay b history
  pub text_is : text ≡ concat texts

-- how many lines messages have together
abbrev pub line_total : List (List (List ℕ)) → ℕ
line_total [] = 0
line_total (lines ∷ messages) = length lines + line_total messages

-- ---- headers

-- of a good message its header, of any other none
abbrev pub IsHeaderOf : Term → Station → List (List ℕ) → Option Header → Type 0
IsHeaderOf season airport lines (Some header) =
    (message : Message) × IsGoodMessage season airport lines message × (header ≡ header_of message)
IsHeaderOf season airport lines None = (line : ℕ) × IsBadAt season airport lines line
