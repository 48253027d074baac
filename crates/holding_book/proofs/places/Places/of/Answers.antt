use Rattle.std.proofs.Common.{ℕ, ◌++◌, ◌∷◌, [], List, cond, ap, ◌∙◌, sym}
use Rattle.holding_book.specs.Lines.{has_flight}
use Rattle.holding_book.proofs.ListingLemmas.{places_next_at}
use Rattle.holding_book.proofs.places.Places.of.Goals as goal

pub loop-n-preserved : goal.loop-n-preserved
loop-n-preserved c = λ flight.
    let held = c.holding_at-held.result in
    c.in_ok-add_line.ensures flight
    ∙ ap (λ (t : List ℕ). t ++ cond (has_flight flight held.line) (c.loop-n.n ∷ []) []) (c.loop-n.invariant flight)
    ∙ sym (places_next_at flight c.args.holdings.now c.loop-n.n held c.loop-n-test.true c.holding_at-held.ensures)
