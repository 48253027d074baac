use Rattle.std.proofs.Common.{◌≡◌, ◌++◌, ◌∷◌, [], true, false, List, length, Some, None, subst, ap, ◌∙◌, sym, refl, arith}
use Rattle.std.specs.Prelude.{All}
use Rattle.std.specs.Option.{ForSome}
use Rattle.std.specs.List.{slice_get}
use Rattle.season_days.specs.Capacity.{capacity_of}
use Rattle.series_model.specs.TimedLines.{line_movements}
use Rattle.holding_book.specs.declared.holding.Holding.{Holding}
use Rattle.holding_book.specs.declared.holding.State.TheVariants.{Confirmed}
use Rattle.holding_book.specs.Lines.{matches}
use Rattle.holding_book.specs.Books.{season_of, confirmed, clashes_with, fits_beside}
use Rattle.holding_book.specs.Asks.{AskOutcome, released, change_by}
use Rattle.holding_book.specs.Private.Uses.{AreUsesOf}
use Rattle.holding_book.specs.Private.Steps.{held_book, first_place, replaced_at, HasFlightsOf, IsAskStep}
use Rattle.holding_book.proofs.RowLemmas.{released-none, released-some, made, flights_at, few_parts, by_tests, swap_gives, serves-fits, not_served, room_for_given}
use Rattle.holding_book.specs.declared.answer.Answer.TheVariants.{KChanged as changed}
use Rattle.holding_book.proofs.RowLemmas.{same_holding}
use Rattle.holding_book.proofs.rows.exchange.Goals as goal

pub returns-in_default-clause-step : goal.returns-in_default-clause-step
returns-in_default-clause-step c =
    let b = held_book c.args.loads.now c.args.holdings.now in
    let e : first_place (matches (season_of b) Confirmed c.args.historic.now) b.holdings ≡ None = rw c.declaration.ensures.value at (sym c.first_match.ensures.place ∙ c.in_default.is) in
    subst (λ (o : AskOutcome). IsAskStep b o c.stays.result) (sym (ap (change_by b c.args.request.now) (released-none b Confirmed c.args.historic.now e))) (c.stays.ensures b)

pub swap_change-requires-clause-few : goal.swap_change-requires-clause-few
swap_change-requires-clause-few c = omega (arith, c.requires.few, ap (λ (l : List Holding). length l) c.deref-2.ensures.value, few_parts c.declaration.result.now.season c.args.historic.now.period c.holding_at-held.result c.in_ok-rest.rest.items c.in_ok-rest.ensures.parts)

pub swap_change-requires-clause-flights : goal.swap_change-requires-clause-flights
swap_change-requires-clause-flights c =
    subst (λ (os : List Holding). ForSome (slice_get c.args.holdings.now c.in-Some.at) (λ h. All (HasFlightsOf h.line) os)) (sym c.deref-2.ensures.value)
    (flights_at c.args.holdings.now c.in-Some.at c.holding_at-held.result c.in_ok-rest.rest.items c.holding_at-held.ensures c.in_ok-rest.ensures.flights)

pub returns-then-clashes_after-clause-step : goal.returns-then-clashes_after-clause-step
returns-then-clashes_after-clause-step c =
    let hs = c.args.holdings.now in
    let b = held_book c.args.loads.now hs in
    let historic = c.args.historic.now in
    let request = c.args.request.now in
    let at = c.in-Some.at in
    let rest = c.in_ok-rest.rest.items in
    let left = replaced_at at rest hs in
    let e : first_place (matches (season_of b) Confirmed historic) hs ≡ Some at = rw c.declaration.ensures.value at (sym c.first_match.ensures.place ∙ c.in-Some.is) in
    let parts = rw c.declaration.ensures.value at c.in_ok-rest.ensures.parts in
    let some : released b Confirmed historic ≡ Some left = released-some b Confirmed historic at c.holding_at-held.result e c.holding_at-held.ensures ∙ ap (λ (os : List Holding). Some (replaced_at at os hs)) (sym parts) in
    let clash : clashes_with (season_of b) request left ≡ true = rw (c.declaration.ensures.value, c.deref.ensures.value) at (sym c.clashes_after.ensures ∙ c.if-clashes_after.true) in
    subst (λ (o : AskOutcome). IsAskStep b o c.stays-then-clashes_after.result) (sym (by_tests c.cut_counts.ensures c.movement_loads.ensures b historic request c.requires.historic c.requires.few left some true _ clash refl)) (c.stays-then-clashes_after.ensures b)

pub fits_instead-requires-clause-room : goal.fits_instead-requires-clause-room
fits_instead-requires-clause-room c =
    let hs = c.args.holdings.now in
    let loads = c.args.loads.now in
    let b = held_book loads hs in
    let historic = c.args.historic.now in
    let request = c.args.request.now in
    let at = c.in-Some.at in
    let rest = c.in_ok-rest.rest.items in
    let left = replaced_at at rest hs in
    let e : first_place (matches (season_of b) Confirmed historic) hs ≡ Some at = rw c.declaration.ensures.value at (sym c.first_match.ensures.place ∙ c.in-Some.is) in
    let parts = rw c.declaration.ensures.value at c.in_ok-rest.ensures.parts in
    let some : released b Confirmed historic ≡ Some left = released-some b Confirmed historic at c.holding_at-held.result e c.holding_at-held.ensures ∙ ap (λ (os : List Holding). Some (replaced_at at os hs)) (sym parts) in
    room_for_given c.cut_counts.ensures c.movement_loads.ensures b historic request c.requires.historic c.requires.few left some loads.left c.requires.left c.in_ok-freed.freed c.in_ok-taken.taken c.in_ok-freed.ensures c.in_ok-taken.ensures c.requires.limits

pub returns-then-not-fits_instead-clause-step : goal.returns-then-not-fits_instead-clause-step
returns-then-not-fits_instead-clause-step c =
    let hs = c.args.holdings.now in
    let loads = c.args.loads.now in
    let b = held_book loads hs in
    let historic = c.args.historic.now in
    let request = c.args.request.now in
    let at = c.in-Some.at in
    let rest = c.in_ok-rest.rest.items in
    let left = replaced_at at rest hs in
    let e : first_place (matches (season_of b) Confirmed historic) hs ≡ Some at = rw c.declaration.ensures.value at (sym c.first_match.ensures.place ∙ c.in-Some.is) in
    let parts = rw c.declaration.ensures.value at c.in_ok-rest.ensures.parts in
    let some : released b Confirmed historic ≡ Some left = released-some b Confirmed historic at c.holding_at-held.result e c.holding_at-held.ensures ∙ ap (λ (os : List Holding). Some (replaced_at at os hs)) (sym parts) in
    let clash : clashes_with (season_of b) request left ≡ false = rw (c.declaration.ensures.value, c.deref.ensures.value) at (sym c.clashes_after.ensures ∙ c.if-clashes_after.false) in
    let fits : fits_beside b.declaration left (line_movements (season_of b) request) ≡ false = not_served c.cut_counts.ensures c.movement_loads.ensures b historic request c.requires.historic c.requires.few left some loads.left c.requires.left c.in_ok-freed.freed c.in_ok-taken.taken c.in_ok-freed.ensures c.in_ok-taken.ensures (λ serves. let t = c.if-not-fits_instead.ensures.fits.1 serves in absurd (cc t)) in
    subst (λ (o : AskOutcome). IsAskStep b o c.stays-then-not-fits_instead.result) (sym (by_tests c.cut_counts.ensures c.movement_loads.ensures b historic request c.requires.historic c.requires.few left some false false clash fits)) (c.stays-then-not-fits_instead.ensures b)

pub returns-clause-step : goal.returns-clause-step
returns-clause-step c =
    let hs = c.args.holdings.now in
    let loads = c.args.loads.now in
    let b = held_book loads hs in
    let historic = c.args.historic.now in
    let request = c.args.request.now in
    let at = c.in-Some.at in
    let rest = c.in_ok-rest.rest.items in
    let left = replaced_at at rest hs in
    let e : first_place (matches (season_of b) Confirmed historic) hs ≡ Some at = rw c.declaration.ensures.value at (sym c.first_match.ensures.place ∙ c.in-Some.is) in
    let parts = rw c.declaration.ensures.value at c.in_ok-rest.ensures.parts in
    let some : released b Confirmed historic ≡ Some left = released-some b Confirmed historic at c.holding_at-held.result e c.holding_at-held.ensures ∙ ap (λ (os : List Holding). Some (replaced_at at os hs)) (sym parts) in
    let clash : clashes_with (season_of b) request left ≡ false = rw (c.declaration.ensures.value, c.deref.ensures.value) at (sym c.clashes_after.ensures ∙ c.if-clashes_after.false) in
    let fits : fits_beside b.declaration left (line_movements (season_of b) request) ≡ true = serves-fits c.cut_counts.ensures c.movement_loads.ensures b historic request c.requires.historic c.requires.few left some loads.left c.requires.left c.in_ok-freed.freed c.in_ok-taken.taken c.in_ok-freed.ensures c.in_ok-taken.ensures (c.if-not-fits_instead.ensures.fits.0 refl) in
    let o = by_tests c.cut_counts.ensures c.movement_loads.ensures b historic request c.requires.historic c.requires.few left some false true clash fits in
    let new = c.held_as-new.result in
    let is_new : new ≡ confirmed request = same_holding new request Confirmed c.held_as-new.ensures.line c.held_as-new.ensures.state in
    let holdings : c.in_ok-change.change.holdings.items ≡ left ++ confirmed request ∷ [] = c.in_ok-change.ensures.holdings ∙ ap (λ (os : List Holding). replaced_at at os hs ++ new ∷ []) c.deref-2.ensures.value ∙ ap (λ (h : Holding). left ++ h ∷ []) is_new in
    let freed = subst (AreUsesOf (capacity_of b.declaration) (line_movements (season_of b) historic)) (sym c.in_ok-change.ensures.freed) c.in_ok-freed.ensures in
    let taken = subst (AreUsesOf (capacity_of b.declaration) (line_movements (season_of b) request)) (sym c.in_ok-change.ensures.taken) c.in_ok-taken.ensures in
    let gives = swap_gives c.cut_counts.ensures c.movement_loads.ensures b historic request c.requires.historic c.requires.few left some c.in_ok-change.change holdings c.in_ok-change.ensures.places freed taken in
    subst (λ (o : AskOutcome). IsAskStep b o (record { answer = changed; change = Some c.in_ok-change.change })) (sym o)
    (made b (record { answer = changed; holdings = left ++ confirmed request ∷ [] }) changed c.in_ok-change.change refl gives)
