-- Books: the slots that are held of a declared capacity, offers included. Whether they fit, and
-- which times can still be offered. See the Worldwide Airport Slot Guidelines on slot records.
use Rattle.std.specs.Prelude.{ℕ, suc, nat_le, Bool, if◌then◌else◌, List, [], ◌∷◌, ◌++◌, All, filter, Option, Some, None}
use Rattle.std.specs.List.{flat_map, list_all}
use Rattle.season_days.specs.Term.{Term}
use Rattle.season_days.specs.Capacity.{Capacity, capacity_of, IsDeclaration, declared_resources}
use Rattle.season_days.specs.declared.declaration.Declaration.{Declaration}
use Rattle.scr_reader.specs.Printed.{LineFits}
use Rattle.scr_reader.specs.declared.line.Flight.{Flight}
use Rattle.scr_reader.specs.declared.line.Line.{Line}
use Rattle.capacity_windows.specs.Counts.{numbers_below}
use Rattle.capacity_windows.specs.Windows.{window_load, window_limit, WindowsFit}
use Rattle.capacity_windows.specs.declared.movement.Movement.{Movement}
use Rattle.series_model.specs.declared.times.Times.{Times}
use Rattle.series_model.specs.Options.{shifts_of}
use Rattle.series_model.specs.TimedLines.{line_movements}
use Rattle.series_model.specs.Displacement.{cost_at}
use Rattle.series_model.specs.Movements.{movements_at}
use Rattle.holding_book.specs.declared.holding.Holding.{Holding}
use Rattle.holding_book.specs.declared.holding.State.TheVariants.{Confirmed, Offered}
use Rattle.holding_book.specs.Lines.{clashes, has_flight}
use Rattle.std.specs.List.{list_any}

-- a declaration, and holdings in their order
pub record SlotBook : Type 0 where
  pub declaration : Declaration
  pub holdings : List Holding

-- what contracts see of a book: beside it, for how many flights that it does not have yet there is
-- room without memory
pub record BookView : Type 0 where
  pub book : SlotBook
  pub spare : ℕ

abbrev pub season_of : SlotBook → Term
season_of b = b.declaration.season

abbrev pub with_holdings : SlotBook → List Holding → SlotBook
with_holdings b holdings = record b { holdings = holdings }

-- ---- holdings

abbrev pub confirmed : Line → Holding
confirmed line = record { line = line; state = Confirmed }

abbrev pub offered : Line → Holding
offered line = record { line = line; state = Offered }

-- ---- movements, and whether they fit; those after the season's last date are listed nowhere

abbrev pub held_movements : Term → List Holding → List Movement
held_movements season holdings = flat_map (λ holding. line_movements season holding.line) holdings

abbrev pub book_movements : SlotBook → List Movement
book_movements b = held_movements (season_of b) b.holdings

-- no resource holds more of the movements of all holdings than it may
abbrev pub BookFits : SlotBook → Type 0
BookFits b = WindowsFit (capacity_of b.declaration) (book_movements b)

-- the same of any movements, as a test of each resource
unfoldable pub movements_fit : Capacity → List Movement → Bool
movements_fit c list =
    list_all (λ r. nat_le (window_load c list r) (window_limit c r))
    (numbers_below (declared_resources c))

-- whether the movements of the holdings and these together fit
abbrev pub fits_beside : Declaration → List Holding → List Movement → Bool
fits_beside d holdings movements =
    movements_fit (capacity_of d) (held_movements d.season holdings ++ movements)

-- ---- clashes with the holdings

abbrev pub clashes_with : Term → Line → List Holding → Bool
clashes_with season line holdings = list_any (λ holding. clashes season line holding.line) holdings

-- ---- the places of a flight: those of the holdings that have it as arrival or departure, rising

abbrev pub places_from : Flight → ℕ → List Holding → List ℕ
places_from flight n [] = []
places_from flight n (holding ∷ holdings) =
    if has_flight flight holding.line then n ∷ places_from flight (suc n) holdings
    else places_from flight (suc n) holdings

abbrev pub places_of : Flight → List Holding → List ℕ
places_of flight holdings = places_from flight 0 holdings

-- ---- which times can be offered

-- the shifts of a line at which it fits beside the book
abbrev pub fitting_shifts : SlotBook → Line → List Times
fitting_shifts b line =
    filter (λ times. fits_beside b.declaration b.holdings (movements_at (season_of b) line times))
    (shifts_of b.declaration line)

-- the first of least cost
abbrev pub cheaper : (Times → ℕ) → Times → Option Times → Times
cheaper cost times None = times
cheaper cost times (Some later) = if nat_le (cost times) (cost later) then times else later

abbrev pub first_cheapest : (Times → ℕ) → List Times → Option Times
first_cheapest cost [] = None
first_cheapest cost (times ∷ options) = Some (cheaper cost times (first_cheapest cost options))

-- the cheapest alternative that fits, the first of several
abbrev pub best_times : SlotBook → Line → Option Times
best_times b line = first_cheapest (cost_at b.declaration line) (fitting_shifts b line)

-- ---- what each book keeps: its declaration the limits, each line a spelling, and it fits

pub record IsBook (b : SlotBook) : Type 0 where
  pub declared : IsDeclaration b.declaration
  pub lines : All (λ holding. LineFits b.declaration.season holding.line) b.holdings
  pub fits : BookFits b
