-- Which messages are read again as they are printed.
use Rattle.std.specs.Prelude.{◌≡◌, ◌≢◌, ℕ, ◌+◌, ◌<◌, List, [], ◌∷◌, ◌++◌, length}
use Rattle.slot_text.specs.Stations.{IsStation}
use Rattle.scr_reader.specs.Parts.{IsDayOfMonth}
use Rattle.scr_reader.specs.Messages.{AsksChange, header_of}
use Rattle.scr_reader.specs.declared.header.Header.{Header}
use Rattle.season_days.specs.Term.{Term}
use Rattle.scr_reader.specs.Printed.{item_text, message_lines, message_text, IsAsked, ItemFits, ItemsFit}
use Rattle.scr_reader.specs.declared.line.Code.TheVariants.{C, R, L}
use Rattle.scr_reader.specs.declared.line.Item.{Item}
use Rattle.scr_reader.specs.declared.line.Item.TheVariants.{One, Pair, Query}
use Rattle.scr_reader.specs.declared.message.Placed.{Placed}
use Rattle.scr_reader.specs.declared.message.Message.{Message}

-- a line of an airline that stands alone, a line to be changed with the line that asks for the
-- change, or a question
abbrev pub IsAskedItem : Item → Type 0
IsAskedItem (One line) = IsAsked line.code × (line.code ≢ C) × (line.code ≢ R) × (line.code ≢ L)
IsAskedItem (Pair changed asked) = (changed.code ≡ C) × AsksChange changed asked
IsAskedItem (Query flight) = Unit {0}

abbrev pub AreAsked : List Placed → Type 0
AreAsked [] = Unit {0}
AreAsked (placed ∷ items) = IsAskedItem placed.item × AreAsked items

-- the header names a season, a day that its month has, and a station
pub record HeaderFits (header : Header) : Type 0 where
  pub season : header.season.year < 100
  pub date : IsDayOfMonth header.month header.day
  pub airport : IsStation header.airport.0

-- what an airline can say: a header in its ranges, and items that can be asked
pub record IsAirlineMessage (message : Message) : Type 0 where
  pub header : HeaderFits (header_of message)
  pub items : AreAsked message.items

-- an item that can be asked, and fits the season
pub record IsFitItem (season : Term) (item : Item) : Type 0 where
  pub asked : IsAskedItem item
  pub fits : ItemFits season item

-- the text is the printed one of an item that can be asked, and fits the season
pub record IsItemText (season : Term) (text : List ℕ) (item : Item) : Type 0 where
  pub fit : IsFitItem season item
  pub spelled : text ≡ item_text season item

-- how many lines an item has
abbrev pub line_count : Item → ℕ
line_count (One line) = 1
line_count (Pair changed asked) = 2
line_count (Query flight) = 1

-- each item has the number of its first line, where no line lies between two items
abbrev pub AreNumbered : ℕ → List Placed → Type 0
AreNumbered number [] = Unit {0}
AreNumbered number (placed ∷ items) =
    (placed.line ≡ number) × AreNumbered (number + line_count placed.item) items

-- The message has a spelling, and its lines have the numbers that they have where its text begins
-- on the line of this number: the season stands on the next one, and the items begin on the fifth.
pub record IsReadAgain (number : ℕ) (message : Message) : Type 0 where
  pub line : message.line ≡ number + 1
  pub season : message.season.year < 100
  pub date : IsDayOfMonth message.month message.day
  pub airport : IsStation message.airport.0
  pub fit : ItemsFit message.season message.items
  pub asked : AreAsked message.items
  pub numbered : AreNumbered (number + 4) message.items

-- messages that follow each other, with an empty line after each
abbrev pub messages_text : List Message → List ℕ
messages_text [] = []
messages_text (message ∷ messages) = message_text message ++ (10 ∷ messages_text messages)

abbrev pub AreReadAgain : ℕ → List Message → Type 0
AreReadAgain number [] = Unit {0}
AreReadAgain number (message ∷ messages) =
    IsReadAgain number message × AreReadAgain (number + length (message_lines message) + 1) messages
