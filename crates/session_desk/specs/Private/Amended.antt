-- Items that were answered one after the other.
use Rattle.std.specs.Prelude.{◌≡◌, ℕ, List, [], ◌∷◌, ◌++◌, map}
use Rattle.season_days.specs.Term.{Term}
use Rattle.scr_reader.specs.declared.line.Item.{Item}
use Rattle.scr_reader.specs.declared.message.Placed.{Placed}
use Rattle.holding_book.specs.declared.answer.Answer.{Answer}
use Rattle.holding_book.specs.declared.answer.Entry.{Entry}
use Rattle.holding_book.specs.Replied.{HasAnswerLines}
use Rattle.slot_ledger.specs.Starts.{new_entry}
use Rattle.scr_replies.specs.Replies.{AreAnswerLines}
use Rattle.scr_replies.specs.Received.{AreFor}
use Rattle.session_desk.specs.Begun.{LeavesAsks}
use Rattle.session_desk.specs.declared.responder.AnswerFault.{AnswerFault}
use Rattle.session_desk.specs.declared.responder.AnswerFault.TheVariants.{Full, Broken, Memory}

abbrev pub item_of : Placed → Item
item_of placed = placed.item

abbrev pub answer_of : Entry → Answer
answer_of entry = entry.answer

-- each item has its entry and its answer, whose lines have a spelling
pub record HasAnswers (season : Term) (caller : ℕ) (items : List Placed)
    (before after : List Entry) (answers : List Answer) : Type 0 where
  pub own : List Entry
  pub entries_are : after ≡ before ++ own
  pub are_for : AreFor caller (map item_of items) own
  pub answers_are : map answer_of own ≡ answers
  pub lines : AreAnswerLines season items answers

-- one item more has
pub record HasOneAnswer (season : Term) (caller : ℕ) (ask : Item) (before after : List Entry)
    (answers now : List Answer) : Type 0 where
  pub answer : Answer
  pub entered : after ≡ before ++ new_entry caller ask answer ∷ []
  pub answers_are : now ≡ answers ++ answer ∷ []
  pub lines : HasAnswerLines season ask answer

-- why an ask was not entered
abbrev pub StopsAnswer : (ℕ → Type 0) → ℕ → AnswerFault → Type 0
StopsAnswer broken most (Full length) = length ≡ most
StopsAnswer broken most (Broken faults) = broken faults
StopsAnswer broken most Memory = Unit {0}

-- the first of these items have their entries, the rest was left
pub record HasLeft (broken : ℕ → Type 0) (most caller : ℕ) (fault : AnswerFault)
    (items : List Placed) (before after : List Entry) : Type 0 where
  pub own : List Entry
  pub first : List Item
  pub rest : List Item
  pub entries_are : after ≡ before ++ own
  pub asks : map item_of items ≡ first ++ rest
  pub are_for : AreFor caller first own
  pub left : LeavesAsks broken most fault rest
