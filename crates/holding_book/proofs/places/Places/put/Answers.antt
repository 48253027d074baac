use Rattle.std.proofs.Common.{◌≡◌, ◌<◌, true, false, ℕ, [], List, ◌∷◌, ◌++◌, length, sym, ap, ◌∙◌, Vec, arith}
use Rattle.std.proofs.lemmas.List.{length-map, map-set, map-append}
use Rattle.std.specs.List.{list_any, position_or_len}
use Rattle.holding_book.specs.Lines.{is_flight}
use Rattle.holding_book.specs.Private.Places.{place_lists}
use Rattle.holding_book.proofs.FlightLemmas.{is_flight-apart, is_flight-same, is_flight-both}
use Rattle.holding_book.proofs.PlacesLemmas.{put_new, put_old, not_true, not_false, keys_new, keys_old}
use Rattle.holding_book.proofs.places.Places.put.Goals as goal

pub returns-then-added-clause-places : goal.returns-then-added-clause-places
returns-then-added-clause-places c = λ other.
    let flights = c.self.inside.flights.keys in
    let lists = c.self.inside.lists.items in
    let flight = c.args.flight in
    let absent : list_any (is_flight flight) flights ≡ false = not_true (list_any (is_flight flight) flights) (sym c.in-Ok.ensures.added ∙ c.if-added.true) in
    let keys : c.insert_full.new.self.keys ≡ flights ++ flight ∷ [] = c.in-Ok.ensures.keys ∙ keys_new (list_any (is_flight flight) flights) flights flight absent in
    let items : place_lists c.push_reserved.new.self.items ≡ place_lists lists ++ c.args.list.items ∷ [] = ap place_lists c.push_reserved.ensures.items ∙ map-append (λ (l : Vec ℕ _). l.items) lists (c.args.list ∷ []) in
    let same : length (place_lists lists) ≡ length flights = length-map lists (λ (l : Vec ℕ _). l.items) ∙ c.self.invariant in
    rw (← c.self.view_is, keys, items) (put_new (is_flight other) (is_flight flight) flight (is_flight-apart other flight) c.args.list.items [] flights (place_lists lists) same absent)

pub returns-else-added-clause-places : goal.returns-else-added-clause-places
returns-else-added-clause-places c = λ other.
    let flights = c.self.inside.flights.keys in
    let lists = c.self.inside.lists.items in
    let flight = c.args.flight in
    let present : list_any (is_flight flight) flights ≡ true = not_false (list_any (is_flight flight) flights) (sym c.in-Ok.ensures.added ∙ c.if-added.false) in
    let keys : c.insert_full.new.self.keys ≡ flights = c.in-Ok.ensures.keys ∙ keys_old (list_any (is_flight flight) flights) flights flight present in
    let lt : c.in-Ok.number < length flights = omega (arith, c.in-Ok.ensures.within, ap (λ (l : List _). length l) keys) in
    let n : c.in-Ok.number ≡ position_or_len (is_flight flight) flights = c.in-Ok.ensures.index in
    let low : position_or_len (is_flight flight) flights < length flights = omega (arith, n, lt) in
    let same : length (place_lists lists) ≡ length flights = length-map lists (λ (l : Vec ℕ _). l.items) ∙ c.self.invariant in
    rw (← c.self.view_is, keys, map-set (λ (l : Vec ℕ _). l.items) lists c.in-Ok.number c.args.list, n)
    (put_old (is_flight other) (is_flight flight) flight (is_flight-apart other flight) (λ x e. is_flight-same other flight x e) (is_flight-both other flight) c.args.list.items [] flights (place_lists lists) same low)
