-- What is found among the holdings at some places: contracts of private functions alone cite these
-- words.
use Rattle.std.specs.Prelude.{◌≡◌, ℕ, ◌==◌, ◌&&◌, not, Bool, true, false, if◌then◌else◌, List, [], ◌∷◌, slice_get, Option, Some, None}
use Rattle.std.specs.List.{cons_option}
use Rattle.season_days.specs.Term.{Term}
use Rattle.scr_reader.specs.declared.line.Flight.{Flight}
use Rattle.scr_reader.specs.declared.line.Line.{Line}
use Rattle.scr_reader.specs.declared.line.Stop.{Stop}
use Rattle.holding_book.specs.declared.holding.Holding.{Holding}
use Rattle.holding_book.specs.declared.holding.State.{State}
use Rattle.holding_book.specs.Lines.{clashes, matches, has_flight}
use Rattle.holding_book.specs.Books.{places_of}

-- there is a holding at the place, and it passes the test
abbrev pub passes_option : (ℕ → Holding → Bool) → ℕ → Option Holding → Bool
passes_option test n None = false
passes_option test n (Some holding) = test n holding

abbrev pub passes_at : (ℕ → Holding → Bool) → List Holding → ℕ → Bool
passes_at test holdings n = passes_option test n (slice_get holdings n)

abbrev pub is_place : Option ℕ → ℕ → Bool
is_place None n = false
is_place (Some place) n = place == n

-- a clash with the holding at any place but one
abbrev pub clash_but : Term → Line → Option ℕ → ℕ → Holding → Bool
clash_but season line but n holding = not (is_place but n) && clashes season line holding.line

-- the places of the flight of a stop, if there is one
abbrev pub stop_places : Option Stop → List Holding → List ℕ
stop_places None holdings = []
stop_places (Some stop) holdings = places_of stop.flight holdings

-- the first number that passes a test
abbrev pub first_of : (ℕ → Bool) → List ℕ → Option ℕ
first_of test [] = None
first_of test (n ∷ ns) = if test n then Some n else first_of test ns

-- the holding at a place, if there is one
abbrev pub held_at : List Holding → ℕ → List Holding
held_at holdings n = cons_option (slice_get holdings n) []

-- each holding that matches the line has the flight
abbrev pub HasEachMatch : Line → Flight → Type 0
HasEachMatch line flight = (season : Term) (state : State) (holding : Holding) →
    matches season state line holding ≡ true → has_flight flight holding.line ≡ true
