-- One history of amendments that callers share: what a caller has seen of it after an ask of its
-- own.
use Rattle.std.specs.Prelude.{◌≡◌, ℕ, ◌<◌, ◌≤◌, List, [], ◌∷◌, ◌++◌, length}
use Rattle.turn_lock.specs.History.{GoesOnFrom, own}
use Rattle.turn_lock.specs.Seats.{SeatView}
use Rattle.season_days.specs.declared.declaration.Declaration.{Declaration}
use Rattle.scr_reader.specs.declared.line.Item.{Item}
use Rattle.holding_book.specs.declared.answer.Answer.{Answer}
use Rattle.holding_book.specs.declared.answer.Entry.{Entry}
use Rattle.holding_book.specs.Books.{SlotBook, IsBook}
use Rattle.holding_book.specs.Asks.{reply}
use Rattle.holding_book.specs.Histories.{IsLegal}
use Rattle.slot_ledger.specs.Starts.{entry_caller, new_entry}
use Rattle.slot_ledger.specs.declared.fault.LedgerFault.{LedgerFault}
use Rattle.slot_ledger.specs.declared.fault.LedgerFault.TheVariants.{Full, Memory}

-- Why an ask was not entered: the history holds as many entries as it may exactly where the fault
-- says so, and their number is its number.
abbrev pub IsFullAt : ℕ → List Entry → LedgerFault → Type 0
IsFullAt most history (Full count) = (count ≡ length history) × (length history ≡ most)
IsFullAt most history Memory = length history < most

-- the answer that is due to the ask on a book of this declaration, which keeps what each book keeps
pub record IsDue (d : Declaration) (ask : Item) (answer : Answer) : Type 0 where
  pub on : SlotBook
  pub is_book : IsBook on
  pub declared : on.declaration ≡ d
  pub reply_is : answer ≡ reply on ask

module _ {O : Type 0} where
  -- What the pass had seen, then entries of other callers, then the ask with its answer. The own
  -- calls grew by this entry alone.
  pub record HasEntered (ask : Item) (answer : Answer) (before after : SeatView O Entry)
      : Type 0 where
    pub between : List Entry
    pub goes_on : GoesOnFrom entry_caller before.number before.seen between
    pub seen : after.seen ≡ between ++ new_entry before.number ask answer ∷ []
    pub grew : after.own ≡ before.own ++ new_entry before.number ask answer ∷ []

  -- nothing was entered: what the pass had seen, and then entries of other callers
  pub record HasSeenMore (before after : SeatView O Entry) : Type 0 where
    pub goes_on : GoesOnFrom entry_caller before.number before.seen after.seen
    pub own_stays : after.own ≡ before.own

  -- The pass is of the same caller. What it has seen is legal from the book at the start and no
  -- longer than it may be, and its own calls are the entries of its number in that.
  pub record IsStillPass (start : SlotBook) (most : ℕ) (before after : SeatView O Entry)
      : Type 0 where
    pub number : after.number ≡ before.number
    pub own_is : after.own ≡ own entry_caller after.number after.seen
    pub legal : IsLegal start after.seen
    pub few : length after.seen ≤ most

  -- the pass, by what its list is read as
  abbrev pub read_pass : {X : Type 0} → (List X → List Entry) → SeatView O X → SeatView O Entry
  read_pass read seat = record {
    turn = seat.turn;
    origin = seat.origin;
    number = seat.number;
    seen = read seat.seen;
    own = read seat.own;
    holds = seat.holds;
  }
