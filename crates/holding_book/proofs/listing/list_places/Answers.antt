use Rattle.std.proofs.Common.{ℕ, Vec, List, ◌++◌, ◌∷◌, [], cond, Bool, sym, ap, ◌∙◌, append-nil, take}
use Rattle.holding_book.specs.Books.{places_of}
use Rattle.holding_book.proofs.ListingLemmas.{places_next}
use Rattle.holding_book.proofs.listing.list_places.Goals.{then-has_flight+in_ok-push, else-has_flight}
use Rattle.holding_book.proofs.listing.list_places.Goals as goal

pub loop-n-preserved : goal.loop-n-preserved
loop-n-preserved c =
    let n = c.loop-n.n in
    let before = places_of c.args.flight.now (take n c.args.holdings.now) in
    let next = places_next c.args.flight.now c.args.holdings.now n _ c.loop-n-test.true in
    elim c.if-has_flight.branch [
      | then-has_flight+in_ok-push w ↦
          let has = sym c.has_flight.ensures ∙ w.if-has_flight.true in
          ap (λ (v : Vec ℕ _). v.items) w.places-is ∙ w.in_ok-push.ensures.items ∙ ap (λ (t : List ℕ). t ++ n ∷ []) c.loop-n.invariant
          ∙ sym (next ∙ ap (λ (b : Bool). before ++ cond b (n ∷ []) []) has)
      | else-has_flight w ↦
          let lacks = sym c.has_flight.ensures ∙ w.if-has_flight.false in
          ap (λ (v : Vec ℕ _). v.items) w.places-is ∙ c.loop-n.invariant
          ∙ sym (next ∙ ap (λ (b : Bool). before ++ cond b (n ∷ []) []) lacks ∙ append-nil before)
    ]
