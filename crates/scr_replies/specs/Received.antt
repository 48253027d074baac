-- What a desk receives: the lines of one message, which it reads, or whose bad line it names; and
-- what it answers to them. A message is good that can be read and is of the desk's season and
-- airport.
use Rattle.std.specs.Prelude.{◌≡◌, ◌⊎◌, ℕ, List, [], map, All, Some}
use Rattle.slot_text.specs.declared.station.Station.{Station}
use Rattle.season_days.specs.Term.{Term}
use Rattle.season_days.specs.declared.declaration.Declaration.{Declaration}
use Rattle.scr_reader.specs.Messages.{run_from, IsMessage, IsMessageFault}
use Rattle.scr_reader.specs.Faults.{fault_line}
use Rattle.scr_reader.specs.Strays.{IsStrayLine, stray_number}
use Rattle.scr_reader.specs.declared.line.Item.{Item}
use Rattle.scr_reader.specs.declared.message.Placed.{Placed}
use Rattle.scr_reader.specs.declared.message.Message.{Message}
use Rattle.scr_reader.specs.declared.fault.ScrFault.{ScrFault}
use Rattle.scr_reader.specs.declared.stray.StrayLine.{StrayLine}
use Rattle.holding_book.specs.declared.answer.Entry.{Entry}
use Rattle.holding_book.specs.Asks.{CanAsk}
use Rattle.scr_replies.specs.declared.received.Received.{Received}
use Rattle.scr_replies.specs.declared.received.Received.TheVariants.{Good, Bad}
use Rattle.scr_replies.specs.Replies.{asks_of, reply_text, bad_text}

-- ---- good messages and bad lines

-- the lines are this message, of the desk's season and airport
pub record IsGoodMessage (season : Term) (airport : Station) (lines : List (List ℕ))
    (message : Message) : Type 0 where
  pub read : IsMessage (run_from 1 lines) message
  pub of_season : message.season ≡ season
  pub of_airport : message.airport ≡ airport

-- a message that can be read names another season, or else another airport, in this line
pub record IsStrayAt (season : Term) (airport : Station) (lines : List (List ℕ))
    (n : ℕ) : Type 0 where
  pub message : Message
  pub stray : StrayLine
  pub read : IsMessage (run_from 1 lines) message
  pub strays : IsStrayLine season airport message (Some stray)
  pub number : n ≡ stray_number stray

-- the lines cannot be read, and the fault names this line
pub record IsUnreadAt (lines : List (List ℕ)) (n : ℕ) : Type 0 where
  pub fault : ScrFault
  pub unread : IsMessageFault (run_from 1 lines) fault
  pub number : fault_line fault ≡ Some n

-- the bad line, the first of the message being 1: a fault of the form comes before another season
-- or airport
abbrev pub IsBadAt : Term → Station → List (List ℕ) → ℕ → Type 0
IsBadAt season airport lines n = IsUnreadAt lines n ⊎ IsStrayAt season airport lines n

abbrev pub IsReceived : Term → Station → List (List ℕ) → Received → Type 0
IsReceived season airport lines (Good message) = IsGoodMessage season airport lines message
IsReceived season airport lines (Bad n) = IsBadAt season airport lines n

-- ---- what is asked by it

abbrev pub received_items : Received → List Placed
received_items (Good message) = message.items
received_items (Bad n) = []

-- each item can be asked of a book with this declaration
abbrev pub CanAskAll : Declaration → Received → Type 0
CanAskAll d received = All (λ (placed : Placed). CanAsk d placed.item) (received_items received)

-- ---- what is answered

-- the entries are of the caller, and for these asks, in their order
pub record AreFor (caller : ℕ) (asks : List Item) (entries : List Entry) : Type 0 where
  pub callers : All (λ (entry : Entry). entry.caller ≡ caller) entries
  pub asks_are : map (λ (entry : Entry). entry.ask) entries ≡ asks

-- a good message: an entry for each item, and the reply to it
pub record IsGoodAnswered (season : Term) (airport : Station) (caller : ℕ)
    (lines : List (List ℕ)) (entries : List Entry) (text : List ℕ) : Type 0 where
  pub message : Message
  pub good : IsGoodMessage season airport lines message
  pub own : AreFor caller (asks_of message) entries
  pub text_is : text ≡ reply_text message (map (λ (entry : Entry). entry.answer) entries)

-- any other: no entry, and its bad line
pub record IsBadAnswered (season : Term) (airport : Station) (lines : List (List ℕ))
    (entries : List Entry) (text : List ℕ) : Type 0 where
  pub line : ℕ
  pub bad : IsBadAt season airport lines line
  pub none : entries ≡ []
  pub text_is : text ≡ bad_text line

-- the entries of a message of this caller, and its text
abbrev pub IsAnsweredMessage : Term → Station → ℕ → List (List ℕ) → List Entry → List ℕ → Type 0
IsAnsweredMessage season airport caller lines entries text =
    IsGoodAnswered season airport caller lines entries text
    ⊎ IsBadAnswered season airport lines entries text
