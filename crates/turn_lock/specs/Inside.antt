-- What holds inside a seat.
use Rattle.std.specs.Prelude.{◌≡◌, ℕ, true, false, List, [], ◌∷◌, length, Option, None}
use Rattle.atomic_table.specs.Table.{Me}
use Rattle.turn_lock.specs.declared.view.Caller.{Caller}
use Rattle.turn_lock.specs.declared.view.View.{View}
use Rattle.turn_lock.specs.History.{own}
use Rattle.turn_lock.specs.Seats.{SeatView}

module _ {E : Type 0} where
  -- what the first caller has seen
  abbrev pub seen_of : List (Caller E) → List E
  seen_of [] = []
  seen_of (c ∷ cs) = c.seen

  -- the own entries of the first caller
  abbrev pub own_of : List (Caller E) → List E
  own_of [] = []
  own_of (c ∷ cs) = c.own

  -- the caller of this number, when it has seen the history
  abbrev pub caller_after : (E → ℕ) → ℕ → List E → Caller E
  caller_after caller number history =
      record { number = number; seen = history; own = own caller number history }

-- what a seat says of its caller
abbrev pub caller_of : {O E : Type 0} → SeatView O E → Caller E
caller_of seat = record { number = seat.number; seen = seat.seen; own = seat.own }

-- a seat has one caller, and holds the emptied slot while it has the turn
pub record IsSeat {T O E : Type 0} (caller : E → ℕ) (number taken : ℕ)
    (me : Me (Option T) (View O E))
    : Type 0 where
  pub one : Caller E
  pub alone : me.0.callers ≡ one ∷ []
  pub number_is : one.number ≡ number
  pub own_is : one.own ≡ own caller number one.seen
  pub at_rest : me.0.holds ≡ false → me.1 ≡ []
  pub at_work : me.0.holds ≡ true → (me.1 ≡ (0, None) ∷ []) × (taken ≡ length one.seen)
