-- What comes of a text of amendments on a book: its messages are answered one after the other, by
-- one legal history.
use Rattle.std.specs.Prelude.{◌≡◌, ◌⊎◌, ℕ, List, [], ◌∷◌, ◌++◌, All, Option, Some, None}
use Rattle.std.specs.List.{concat}
use Rattle.slot_text.specs.declared.station.Station.{Station}
use Rattle.season_days.specs.Term.{Term}
use Rattle.scr_reader.specs.Messages.{header_of}
use Rattle.scr_reader.specs.Streams.{messages_at_end}
use Rattle.scr_reader.specs.declared.header.Header.{Header}
use Rattle.scr_reader.specs.declared.message.Message.{Message}
use Rattle.holding_book.specs.declared.answer.Entry.{Entry}
use Rattle.holding_book.specs.Books.{SlotBook, BookFits}
use Rattle.holding_book.specs.Asks.{CanAsk, next}
use Rattle.holding_book.specs.Histories.{replay, IsLegal}
use Rattle.scr_replies.specs.Received.{IsGoodMessage, IsBadAt, IsAnsweredMessage}
use Rattle.amend_run.specs.declared.run.Amended.{Amended as AmendedValue}

-- each message has its own part of the entries, in order, and its text
abbrev pub AreAnsweredMessages : Term → Station → ℕ → List (List (List ℕ)) → List Entry →
    List (List ℕ) → Type 0
AreAnsweredMessages season airport caller [] entries [] = entries ≡ []
AreAnsweredMessages season airport caller [] entries (text ∷ texts) = ⊥
AreAnsweredMessages season airport caller (lines ∷ messages) entries [] = ⊥
AreAnsweredMessages season airport caller (lines ∷ messages) entries (text ∷ texts) =
    (own later : List Entry) × (entries ≡ own ++ later)
    × IsAnsweredMessage season airport caller lines own text
    × AreAnsweredMessages season airport caller messages later texts

-- the book fits, and so it does after each entry
abbrev pub FitsThroughout : SlotBook → List Entry → Type 0
FitsThroughout b [] = BookFits b
FitsThroughout b (entry ∷ later) = BookFits b × FitsThroughout (next b entry.ask) later

-- The messages of the text, with the one that its end ends, are answered by a history of caller 0
-- that is legal from this book: these texts, one for each message.
pub record IsAskedBy (start : SlotBook) (asks : List ℕ) (history : List Entry)
    (texts : List (List ℕ)) : Type 0 where
  pub legal : IsLegal start history
  pub answered : AreAnsweredMessages start.declaration.season start.declaration.airport 0
      (messages_at_end asks) history texts

-- what comes of it: the history, the book after it, and the texts one after the other; each ask can
-- be asked of the book, which fits throughout
pub record IsAmended (start : SlotBook) (asks : List ℕ) (amended : AmendedValue) : Type 0 where
  pub texts : List (List ℕ)
  pub asked : IsAskedBy start asks amended.history.items texts
  pub can : All (λ (entry : Entry). CanAsk start.declaration entry.ask) amended.history.items
  pub fits : FitsThroughout start amended.history.items
  pub book : amended.book.book ≡ replay start amended.history.items
  pub text : amended.text.items ≡ concat texts

-- ---- the first good message, by whose header replies to several are dated

abbrev pub IsFirstHeader : Term → Station → List (List (List ℕ)) → Option Header → Type 0
IsFirstHeader season airport [] header = header ≡ None
IsFirstHeader season airport (lines ∷ messages) header =
    ((message : Message) × IsGoodMessage season airport lines message
    × (header ≡ Some (header_of message)))
    ⊎ ((line : ℕ) × IsBadAt season airport lines line
    × IsFirstHeader season airport messages header)
