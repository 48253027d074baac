use Rattle.std.proofs.Common.{◌≡◌, ℕ, ◌++◌, ◌∷◌, [], List, cond, ap, ◌∙◌, sym, refl, true, false}
use Rattle.holding_book.specs.Lines.{is_flight, has_stop_flight}
use Rattle.holding_book.specs.Private.Places.{kept_places}
use Rattle.holding_book.proofs.KeptLemmas.{stop_listed, stop_added}
use Rattle.holding_book.proofs.places.Places.add_stop.Goals as goal

pub returns-then-has_stop_flight : goal.returns-then-has_stop_flight
returns-then-has_stop_flight c = λ flight.
    let own = c.in-Some.stop.flight in
    let e : has_stop_flight own c.args.other ≡ true = sym c.has_stop_flight.ensures ∙ c.if-has_stop_flight.true in
    rw c.in-Some.is (stop_listed flight own c.args.other c.args.place (kept_places c.args.self.now flight) e)

pub returns : goal.returns
returns c = λ flight.
    let own = c.in-Some.stop.flight in
    let place = c.args.place in
    let old = kept_places c.args.self.now in
    let e : has_stop_flight own c.args.other ≡ false = sym c.has_stop_flight.ensures ∙ c.if-has_stop_flight.false in
    let items : c.push.new.self.items ≡ old own ++ place ∷ [] =
    c.in_ok-push.ensures.items ∙ ap (λ (t : List ℕ). t ++ place ∷ []) (c.in_ok-list.ensures.items ∙ c.of_flight.ensures) in
    let same : kept_places c.reserve.new.self flight ≡ old flight = rw (c.in_ok-reserve.ensures.flights, c.in_ok-reserve.ensures.lists) refl in
    let put = c.put.ensures.places flight ∙ ap (λ (t : List ℕ). cond (is_flight flight own) c.push.new.self.items t) same in
    rw c.in-Some.is (put ∙ stop_added flight own c.args.other place old c.push.new.self.items items e)
