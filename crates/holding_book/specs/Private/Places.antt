-- The places that are kept for each flight, and where they are after a holding is replaced.
use Rattle.std.specs.Prelude.{ℕ, ◌+◌, ◌-◌, nat_lt, min, if◌then◌else◌, List, [], map, slice_index_or, Vec}
use Rattle.std.specs.List.{position_or_len}
use Rattle.scr_reader.specs.declared.line.Flight.{Flight}
use Rattle.holding_book.specs.Lines.{is_flight}

-- the flights in the order in which they came, for each a list, and for how many more there is room
pub record PlacesView : Type 0 where
  pub flights : List Flight
  pub lists : List (List ℕ)
  pub spare : ℕ

abbrev pub place_lists : {A : Type 0} → List (Vec ℕ A) → List (List ℕ)
place_lists lists = map (λ (list : Vec ℕ _). list.items) lists

-- the list of a flight; none has no places
abbrev pub kept_places : PlacesView → Flight → List ℕ
kept_places kept flight =
    slice_index_or kept.lists (position_or_len (is_flight flight) kept.flights) []

-- a place after another one, where that is replaced by so many; no place passes the greatest number
abbrev pub moved : ℕ → ℕ → ℕ → ℕ
moved at count place = if nat_lt at place then min (place + count) 4294967295 - 1 else place
