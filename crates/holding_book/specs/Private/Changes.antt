-- What is made ready for a change: the holdings after it, the places that are listed anew, and the
-- uses that are given back and taken.
use Rattle.std.specs.Prelude.{◌≡◌, ℕ, ◌+◌, ◌<◌, ◌^◌, if◌then◌else◌, List, length, map, Option, Some, None}
use Rattle.season_days.specs.Capacity.{capacity_of, declared_resources}
use Rattle.scr_reader.specs.declared.line.Flight.{Flight}
use Rattle.capacity_windows.specs.Windows.{window_load}
use Rattle.holding_book.specs.declared.change.Listed.{Listed}
use Rattle.holding_book.specs.declared.change.Lists.{Lists}
use Rattle.holding_book.specs.declared.change.Change.{Change}
use Rattle.holding_book.specs.Lines.{is_flight}
use Rattle.holding_book.specs.Books.{SlotBook, with_holdings, IsBook, book_movements, places_of}
use Rattle.holding_book.specs.Private.Places.{moved}
use Rattle.holding_book.specs.Private.Uses.{book_uses_of, AreInRange}

-- the places of a flight after a list was put for one
abbrev pub after_list_put : Option Listed → Flight → List ℕ → List ℕ
after_list_put None flight places = places
after_list_put (Some listed) flight places =
    if is_flight flight listed.flight then listed.places.items else places

abbrev pub after_list_puts : Lists → Flight → List ℕ → List ℕ
after_list_puts lists flight places =
    after_list_put lists.fourth flight (after_list_put lists.third flight
    (after_list_put lists.second flight (after_list_put lists.first flight places)))

-- so the book is after the change: it has these holdings
abbrev pub changed_book : SlotBook → Change → SlotBook
changed_book b change = with_holdings b change.holdings.items

-- what the change makes ready is right: the places of each flight, listed anew or moved; and that
-- of each resource as much is given back and taken as its load changes
pub record IsEdit (b : SlotBook) (change : Change) : Type 0 where
  pub few : length change.holdings.items < 2 ^ 32
  pub places : (flight : Flight) → places_of flight change.holdings.items
      ≡ after_list_puts change.lists flight
      (map (moved change.at change.count) (places_of flight b.holdings))
  pub freed_there : AreInRange (declared_resources (capacity_of b.declaration)) change.freed
  pub taken_there : AreInRange (declared_resources (capacity_of b.declaration)) change.taken
  pub loads : (r : ℕ) → r < declared_resources (capacity_of b.declaration) →
      window_load (capacity_of b.declaration) (book_movements (changed_book b change)) r
      + book_uses_of change.freed r
      ≡ window_load (capacity_of b.declaration) (book_movements b) r + book_uses_of change.taken r
  pub few_uses : (r : ℕ) → book_uses_of change.freed r < 2 ^ 20

-- and the book after it keeps what each book keeps
pub record IsChange (b : SlotBook) (change : Change) : Type 0 where
  pub edit : IsEdit b change
  pub book : IsBook (changed_book b change)
