-- What a book has left of a resource.
use Rattle.std.proofs.Common.{◌≡◌, ℕ, ◌<◌, ◌≤◌, ap, ◌∙◌, arith, List, length}
use Rattle.std.specs.Prelude.{slice_index}
use Rattle.season_days.specs.Capacity.{capacity_of, declared_resources}
use Rattle.season_days.specs.declared.declaration.TheConstants.{HIGHEST_NIGHT_LIMIT}
use Rattle.holding_book.specs.declared.holding.Holding.{Holding}
use Rattle.holding_book.specs.Books.{SlotBook, BookView}
use Rattle.holding_book.specs.Left.{left_of}
use Rattle.holding_book.specs.Private.Loads.{LoadsView}
use Rattle.holding_book.specs.Private.Places.{PlacesView}
use Rattle.holding_book.specs.Private.Kept.{IsKeptBook}

module _ (loads : LoadsView) (holdings : List Holding) (places : PlacesView) (v : BookView) (spare r : ℕ)
    (is : record { book = record { declaration = loads.declaration; holdings = holdings }; spare = spare } ≡ v) (kept : IsKeptBook loads holdings places)
    (lt : r < declared_resources (capacity_of v.book.declaration)) where
  abbrev own : SlotBook
  own = record { declaration = loads.declaration; holdings = holdings }

  inside : r < declared_resources (capacity_of loads.declaration)
  inside = omega (arith, lt, ap (λ (x : BookView). declared_resources (capacity_of x.book.declaration)) is)

  pub left-there : r < length loads.left
  left-there = omega (arith, inside, kept.slots.count)

  pub left-is : slice_index loads.left r ≡ left_of v.book r
  left-is =
      let cut : slice_index loads.left r ≡ left_of own r = omega (arith, kept.slots.each r inside) in
      cut ∙ ap (λ (x : BookView). left_of x.book r) is

  pub left-few : slice_index loads.left r ≤ HIGHEST_NIGHT_LIMIT
  left-few = omega (arith, kept.slots.each r inside, kept.limits r)
