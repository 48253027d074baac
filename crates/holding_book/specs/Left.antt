-- What the holdings of a book leave of the capacity.
use Rattle.std.specs.Prelude.{ℕ, ◌-◌}
use Rattle.season_days.specs.Capacity.{capacity_of}
use Rattle.capacity_windows.specs.Windows.{window_load, window_limit}
use Rattle.holding_book.specs.Books.{SlotBook, book_movements}

-- what all holdings leave of a resource's limit; in a book that fits nothing is cut off at 0
abbrev pub left_of : SlotBook → ℕ → ℕ
left_of b r =
    window_limit (capacity_of b.declaration) r
    - window_load (capacity_of b.declaration) (book_movements b) r
