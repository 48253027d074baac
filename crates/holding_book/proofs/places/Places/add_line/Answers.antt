use Rattle.std.proofs.Common.{ℕ, ◌++◌, ◌∷◌, ◌&&◌, not, [], List, cond, ap, ◌∙◌}
use Rattle.holding_book.specs.Lines.{has_stop_flight}
use Rattle.holding_book.specs.Private.Places.{kept_places}
use Rattle.holding_book.proofs.KeptLemmas.{both_stops}
use Rattle.holding_book.proofs.places.Places.add_line.Goals as goal

pub returns : goal.returns
returns c = λ flight.
    let a = has_stop_flight flight c.args.line.now.arrival in
    let d = has_stop_flight flight c.args.line.now.departure in
    let place = c.args.place in
    c.in_ok-add_stop-2.ensures flight
    ∙ ap (λ (t : List ℕ). t ++ cond (d && not a) (place ∷ []) []) (c.in_ok-add_stop.ensures flight)
    ∙ both_stops a d (kept_places c.args.self.now flight) place
