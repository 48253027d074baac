-- A change keeps what a book keeps.
use Rattle.std.proofs.Common.{◌≡◌, ℕ, ◌+◌, ◌<◌, ◌≤◌, List, [], length, map, sym, ap, ◌∙◌, arith}
use Rattle.std.specs.List.{position_or_len}
use Rattle.std.proofs.Math.ListN.{get_or-map as get_or-mapped}
use Rattle.season_days.specs.Capacity.{Capacity, capacity_of, declared_resources}
use Rattle.season_days.specs.declared.declaration.Declaration.{Declaration}
use Rattle.scr_reader.specs.declared.line.Flight.{Flight}
use Rattle.capacity_windows.specs.Windows.{window_load, window_limit}
use Rattle.choice_problem.specs.Counts.{GrowsBy, HasRoom, HasUses}
use Rattle.holding_book.specs.declared.holding.Holding.{Holding}
use Rattle.holding_book.specs.declared.change.Change.{Change}
use Rattle.holding_book.specs.Lines.{is_flight}
use Rattle.holding_book.specs.Books.{SlotBook, book_movements}
use Rattle.holding_book.specs.Private.Places.{PlacesView, kept_places, moved}
use Rattle.holding_book.specs.Private.Kept.{IsKeptBook}
use Rattle.holding_book.specs.Private.Loads.{LoadsView, AreLeft}
use Rattle.holding_book.specs.Private.Uses.{book_uses_of}
use Rattle.holding_book.specs.Private.Changes.{IsChange, changed_book, after_list_puts}

module _ (loads : LoadsView) (holdings : List Holding) (places : PlacesView) (change : Change) (kept : IsKeptBook loads holdings places) where
  abbrev d : Declaration
  d = loads.declaration

  abbrev c : Capacity
  c = capacity_of d

  abbrev left : List ℕ
  left = loads.left

  abbrev book : SlotBook
  book = record { declaration = d; holdings = holdings }

  abbrev load : ℕ → ℕ
  load r = window_load c (book_movements book) r

  abbrev load_after : ℕ → ℕ
  load_after r = window_load c (book_movements (changed_book book change)) r

  module _ (is : IsChange book change) where
    loads_are : (r : ℕ) → r < declared_resources c → load_after r + book_uses_of change.freed r ≡ load r + book_uses_of change.taken r
    loads_are r lt = is.edit.loads r lt

    fits_after : (r : ℕ) → r < declared_resources c → load_after r ≤ window_limit c r
    fits_after r lt = is.book.fits r lt

    pub room_for_freed : HasRoom left (λ r. book_uses_of change.freed r)
    room_for_freed r lt =
        let there : r < declared_resources c = omega (arith, lt, kept.slots.count) in
        omega (arith, kept.slots.each r there, kept.limits r, is.edit.few_uses r)

    module _ (mid : List ℕ) (count : length mid ≡ length left) (freed : GrowsBy left mid (λ r. book_uses_of change.freed r)) where
      pub uses_for_taken : HasUses mid (λ r. book_uses_of change.taken r)
      uses_for_taken r lt =
          let there : r < declared_resources c = omega (arith, lt, count, kept.slots.count) in
          omega (arith, kept.slots.each r there, freed r (omega (arith, lt, count)), loads_are r there, fits_after r there)

      slots_after : (after : List ℕ) → length after ≡ length mid → GrowsBy after mid (λ r. book_uses_of change.taken r) → AreLeft c (book_movements (changed_book book change)) after
      slots_after after same taken = record {
        count = same ∙ count ∙ kept.slots.count;
        each = λ r there.
            let lt : r < length left = omega (arith, there, kept.slots.count) in
            omega (arith, kept.slots.each r there, freed r lt, taken r (omega (arith, lt, same, count)), loads_are r there);
      }

      pub kept_after : (after : List ℕ) → length after ≡ length mid → GrowsBy after mid (λ r. book_uses_of change.taken r) → (shifted put : PlacesView) → shifted.flights ≡ places.flights → shifted.lists ≡ map (map (moved change.at change.count)) places.lists → ((flight : Flight) → kept_places put flight ≡ after_list_puts change.lists flight (kept_places shifted flight)) → IsKeptBook (record { declaration = d; left = after }) change.holdings.items put
      kept_after after same taken shifted put flights lists puts = record {
        book = is.book;
        slots = slots_after after same taken;
        flights = λ flight.
            let f = map (moved change.at change.count) in
            let n = position_or_len (is_flight flight) places.flights in
            let e : kept_places shifted flight ≡ f (kept_places places flight) = rw (flights, lists) (get_or-mapped f places.lists n []) in
            puts flight ∙ ap (λ (ps : List ℕ). after_list_puts change.lists flight ps) (e ∙ ap f (kept.flights flight)) ∙ sym (is.edit.places flight);
        few = is.edit.few;
        limits = kept.limits;
      }
