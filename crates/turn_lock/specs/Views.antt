-- What a seat knows, and how it is cut in two and put together.
-- A seat has one caller, but while the turn is made or closed.
use Rattle.std.specs.Prelude.{ℕ, zero, suc, ◌==◌, false, ◌||◌, List, [], ◌∷◌, ◌++◌, length}
use Rattle.std.specs.Prelude.{count_by, Some, None}
use Rattle.turn_lock.specs.declared.view.Caller.{Caller}
use Rattle.turn_lock.specs.declared.view.View.{View}
use Rattle.turn_lock.specs.History.{own}

module _ {E : Type 0} where
  -- a caller that has seen nothing
  abbrev pub newcomer : ℕ → Caller E
  newcomer k = record { number = k; seen = []; own = [] }

  -- n callers from the number k on, who have seen nothing
  abbrev pub newcomers : ℕ → ℕ → List (Caller E)
  newcomers k zero = []
  newcomers k (suc n) = newcomer k ∷ newcomers (suc k) n

  -- a caller that has seen the history
  abbrev pub after_seeing : (E → ℕ) → List E → Caller E → Caller E
  after_seeing caller history c =
      record { number = c.number; seen = history; own = own caller c.number history }

  -- how many of the callers have this number
  abbrev pub number_count : ℕ → List (Caller E) → ℕ
  number_count n cs = count_by (λ c. c.number == n) cs

  -- how many of the callers have seen so many entries
  abbrev pub seen_count : ℕ → List (Caller E) → ℕ
  seen_count n cs = count_by (λ c. length c.seen == n) cs

  abbrev pub first_of : List (Caller E) → List (Caller E)
  first_of [] = []
  first_of (c ∷ cs) = c ∷ []

  abbrev pub others_of : List (Caller E) → List (Caller E)
  others_of [] = []
  others_of (c ∷ cs) = cs

module _ {O E : Type 0} where
  -- the first seat of a turn has all callers
  abbrev pub first_view : O → ℕ → View O E
  first_view origin callers =
      record { origin = Some origin; callers = newcomers 0 callers; holds = false }

  -- of two halves of a view, the left one
  abbrev pub all_but_first : View O E → View O E
  all_but_first v = record { origin = v.origin; callers = others_of v.callers; holds = v.holds }

  -- and the right one
  abbrev pub first_alone : View O E → View O E
  first_alone v = record { origin = v.origin; callers = first_of v.callers; holds = false }

  -- what two seats know together, each caller with its own seen list
  abbrev pub united : View O E → View O E → View O E
  united v w = record {
    origin = v.origin;
    callers = w.callers ++ v.callers;
    holds = v.holds || w.holds;
  }

  -- what is left of a seat that was joined to another: nothing
  abbrev pub spent_view : View O E
  spent_view = record { origin = None; callers = []; holds = false }
