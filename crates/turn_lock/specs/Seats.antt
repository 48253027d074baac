-- What contracts see of a turn and of its seats.
use Rattle.std.specs.Prelude.{◌≡◌, ℕ, zero, suc, ◌<◌, Bool, false, List, [], ◌∷◌, Option, Some, Any}
pub use Rattle.atomic_table.specs.Seated.{TableId}
use Rattle.turn_lock.specs.History.{StartsWith, own}

-- which turn it is, the origin of its value, and how many callers it has
pub record TurnView (O : Type 0) : Type 0 where
  pub id : TableId
  pub origin : O
  pub callers : ℕ

-- the turn that a seat is of, the origin that it was made with, its caller's number, the history
-- that it has seen, its own entries, and whether it has the turn
pub record SeatView (O E : Type 0) : Type 0 where
  pub turn : TableId
  pub origin : Option O
  pub number : ℕ
  pub seen : List E
  pub own : List E
  pub holds : Bool

module _ {O E : Type 0} where
  -- a seat that has seen nothing
  abbrev pub new_seat : TableId → O → ℕ → SeatView O E
  new_seat id origin k =
      record { turn = id; origin = Some origin; number = k; seen = []; own = []; holds = false }

  -- the seats of a new turn: n of them, from the number k on
  abbrev pub new_seats : TableId → O → ℕ → ℕ → List (SeatView O E)
  new_seats id origin k zero = []
  new_seats id origin k (suc n) = new_seat id origin k ∷ new_seats id origin (suc k) n

  -- the seat was made with this turn, and its number is that of one of the turn's callers
  abbrev pub IsSeatOf : TurnView O → SeatView O E → Type 0
  IsSeatOf turn seat = (seat.turn ≡ turn.id) × (seat.origin ≡ Some turn.origin)
      × (seat.number < turn.callers)

  -- the seat was made with this turn, and does not have it
  abbrev pub IsAtRest : TurnView O → SeatView O E → Type 0
  IsAtRest turn seat = IsSeatOf turn seat × (seat.holds ≡ false)

  -- the seat has seen a beginning of the history, and its own entries are those of its number in
  -- the history
  abbrev pub HasSeen : (E → ℕ) → List E → SeatView O E → Type 0
  HasSeen caller history seat = StartsWith history seat.seen
      × (seat.own ≡ own caller seat.number history)

  -- one of the seats has this number
  abbrev pub IsNumber : List (SeatView O E) → ℕ → Type 0
  IsNumber seats number = Any (λ seat. seat.number ≡ number) seats
