use Rattle.std.proofs.Common.{◌≡◌, ℕ, ◌<◌, length, get_or, [], sym, ap, ◌∙◌, arith, Vec}
use Rattle.std.proofs.lemmas.List.{get_or-map}
use Rattle.std.specs.List.{position_or_len}
use Rattle.holding_book.specs.Lines.{is_flight}
use Rattle.holding_book.specs.Private.Places.{place_lists}
use Rattle.holding_book.proofs.PlacesLemmas.{position_is}
use Rattle.holding_book.proofs.places.Places.of_flight.Goals as goal

pub returns-in-Some : goal.returns-in-Some
returns-in-Some c =
    let lists = c.self.inside.lists.items in
    let n = c.in-Some.number in
    let v = c.index.result.now in
    let p : position_or_len (is_flight c.args.flight.now) c.self.inside.flights.keys ≡ n = position_is (is_flight c.args.flight.now) c.self.inside.flights.keys n (sym c.in-Some.ensures.index) in
    let lt : n < length lists = omega (arith, c.in-Some.ensures.within, c.self.invariant) in
    let m : get_or (place_lists lists) n [] ≡ v.items = get_or-map (λ (l : Vec ℕ _). l.items) lists n v [] lt ∙ ap (λ (l : Vec ℕ _). l.items) (sym c.index.ensures) in
    rw (← c.self.view_is, p, m) c.as_slice.ensures.value
