-- What is begun of a message that is not answered whole.
use Rattle.std.specs.Prelude.{◌≡◌, ◌⊎◌, ℕ, ◌+◌, List, [], ◌∷◌, ◌++◌}
use Rattle.season_days.specs.declared.declaration.Declaration.{Declaration}
use Rattle.scr_reader.specs.declared.line.Item.{Item}
use Rattle.scr_reader.specs.declared.message.Message.{Message}
use Rattle.holding_book.specs.declared.answer.Entry.{Entry}
use Rattle.slot_ledger.specs.declared.shared.Start.{Start}
use Rattle.slot_ledger.specs.declared.shared.Origin.{Origin}
use Rattle.scr_reader.specs.Again.{IsFitItem}
use Rattle.scr_replies.specs.Replies.{asks_of}
use Rattle.scr_replies.specs.Received.{IsGoodMessage, AreFor, IsAnsweredMessage}
use Rattle.session_desk.specs.declared.amending.DeskCaller.{DeskCaller}
use Rattle.session_desk.specs.declared.responder.AnswerFault.{AnswerFault}
use Rattle.session_desk.specs.declared.responder.AnswerFault.TheVariants.{Full, Broken, Memory}

-- the caller of this number, at the desk of this declaration, where so many entries may be
abbrev pub desk_caller : Declaration → ℕ → ℕ → DeskCaller
desk_caller declaration most number = record {
  season = declaration.season;
  airport = declaration.airport;
  caller = number;
  most = most;
}

-- in a ledger before which so many entries were found
abbrev pub ledger_caller : ℕ → Start → ℕ → DeskCaller
ledger_caller found start number = desk_caller start.declaration (found + start.most) number

-- what is kept beside the history has failed, with this count of faults
abbrev pub HasBroken : {X : Type 0} → (List X → ℕ → Type 0) → ℕ → Type 0
HasBroken {X} broken faults = (told : List X) × broken told faults

-- the entries and the text of a message of this caller
abbrev pub IsAnsweredBy : DeskCaller → List (List ℕ) → List Entry → List ℕ → Type 0
IsAnsweredBy c lines entries text =
    IsAnsweredMessage c.season c.airport c.caller lines entries text

-- Why asks were left: the history holds as many entries as it may, or what is kept beside it has
-- failed, so one ask at least is left; or memory ran out, perhaps for the text alone.
abbrev pub LeavesAsks : (ℕ → Type 0) → ℕ → AnswerFault → List Item → Type 0
LeavesAsks broken most (Full length) rest =
    (length ≡ most) × (next : Item) × (later : List Item) × (rest ≡ next ∷ later)
LeavesAsks broken most (Broken faults) rest =
    broken faults × (next : Item) × (later : List Item) × (rest ≡ next ∷ later)
LeavesAsks broken most Memory rest = Unit {0}

-- a good message: its first asks have their entries, the rest was left
pub record HasBegunMessage (broken : ℕ → Type 0) (c : DeskCaller) (fault : AnswerFault)
    (lines : List (List ℕ)) (entries : List Entry) : Type 0 where
  pub message : Message
  pub first : List Item
  pub rest : List Item
  pub good : IsGoodMessage c.season c.airport lines message
  pub asks : asks_of message ≡ first ++ rest
  pub own : AreFor c.caller first entries
  pub left : LeavesAsks broken c.most fault rest

-- memory may also run out before the message is read
abbrev pub IsBegunBy : (ℕ → Type 0) → DeskCaller → AnswerFault → List (List ℕ) → List Entry
    → Type 0
IsBegunBy broken c (Full length) lines entries =
    HasBegunMessage broken c (Full length) lines entries
IsBegunBy broken c (Broken faults) lines entries =
    HasBegunMessage broken c (Broken faults) lines entries
IsBegunBy broken c Memory lines entries = (entries ≡ [])
    ⊎ HasBegunMessage broken c Memory lines entries

-- what is kept beside a history takes each ask of this caller that can be read in the season
abbrev pub TakesFit : {S : Type 0} → (S → ℕ → Item → Type 0) → Origin S → ℕ → Type 0
TakesFit takes origin number = (ask : Item) → IsFitItem origin.start.declaration.season ask
    → takes origin.beside number ask
