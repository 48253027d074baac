-- What a book keeps beside its holdings: what each resource has left, and the places of each
-- flight.
use Rattle.std.specs.Prelude.{◌≡◌, ℕ, ◌<◌, ◌≤◌, ◌^◌, List, length}
use Rattle.season_days.specs.Capacity.{capacity_of}
use Rattle.scr_reader.specs.declared.line.Flight.{Flight}
use Rattle.holding_book.specs.declared.holding.Holding.{Holding}
use Rattle.season_days.specs.declared.declaration.TheConstants.{HIGHEST_NIGHT_LIMIT}
use Rattle.capacity_windows.specs.Windows.{window_limit}
use Rattle.holding_book.specs.Private.Loads.{LoadsView, AreLeft}
use Rattle.holding_book.specs.Private.Places.{PlacesView, kept_places}
use Rattle.holding_book.specs.Books.{IsBook, book_movements, places_of}

-- they are those of the holdings
abbrev pub ArePlacesKept : PlacesView → List Holding → Type 0
ArePlacesKept places holdings =
    (flight : Flight) → kept_places places flight ≡ places_of flight holdings

-- all that a book keeps
pub record IsKeptBook (loads : LoadsView) (holdings : List Holding) (places : PlacesView) :
    Type 0 where
  pub book : IsBook (record { declaration = loads.declaration; holdings = holdings })
  pub slots : AreLeft (capacity_of loads.declaration)
      (book_movements (record { declaration = loads.declaration; holdings = holdings })) loads.left
  pub flights : ArePlacesKept places holdings
  pub few : length holdings < 2 ^ 32
  pub limits : (r : ℕ) → window_limit (capacity_of loads.declaration) r ≤ HIGHEST_NIGHT_LIMIT
