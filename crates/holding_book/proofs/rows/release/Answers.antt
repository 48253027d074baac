use Rattle.std.proofs.Common.{◌≡◌, List, length, Some, None, subst, ap, ◌∙◌, sym, arith}
use Rattle.std.specs.Prelude.{All}
use Rattle.std.specs.Option.{ForSome}
use Rattle.std.specs.List.{slice_get}
use Rattle.season_days.specs.Capacity.{capacity_of}
use Rattle.series_model.specs.TimedLines.{line_movements}
use Rattle.holding_book.specs.declared.holding.Holding.{Holding}
use Rattle.holding_book.specs.Lines.{matches}
use Rattle.holding_book.specs.Books.{season_of}
use Rattle.holding_book.specs.Asks.{AskOutcome, released, release_by, release_outcome}
use Rattle.holding_book.specs.Private.Uses.{AreUsesOf}
use Rattle.holding_book.specs.Private.Steps.{held_book, first_place, replaced_at, HasFlightsOf, IsAskStep}
use Rattle.holding_book.proofs.RowLemmas.{released-none, released-some, release_answers, release_gives, made, flights_at, few_parts}
use Rattle.holding_book.proofs.rows.release.Goals as goal

pub returns-in_default : goal.returns-in_default
returns-in_default c =
    let b = held_book c.args.loads.now c.args.holdings.now in
    let e : first_place (matches (season_of b) c.args.state c.args.line.now) b.holdings ≡ None = rw c.declaration.ensures.value at (sym c.first_match.ensures.place ∙ c.in_default.is) in
    subst (λ (o : AskOutcome). IsAskStep b o c.stays.result) (sym (ap (release_by b) (released-none b c.args.state c.args.line.now e))) (c.stays.ensures b)

pub replace_change-requires-clause-few : goal.replace_change-requires-clause-few
replace_change-requires-clause-few c = omega (arith, c.requires.few, ap (λ (l : List Holding). length l) c.deref.ensures.value, few_parts c.declaration.result.now.season c.args.line.now.period c.holding_at-held.result c.in_ok-rest.rest.items c.in_ok-rest.ensures.parts)

pub replace_change-requires-clause-flights : goal.replace_change-requires-clause-flights
replace_change-requires-clause-flights c =
    subst (λ (os : List Holding). ForSome (slice_get c.args.holdings.now c.in-Some.at) (λ h. All (HasFlightsOf h.line) os)) (sym c.deref.ensures.value)
    (flights_at c.args.holdings.now c.in-Some.at c.holding_at-held.result c.in_ok-rest.rest.items c.holding_at-held.ensures c.in_ok-rest.ensures.flights)

pub returns : goal.returns
returns c =
    let hs = c.args.holdings.now in
    let b = held_book c.args.loads.now hs in
    let state = c.args.state in
    let line = c.args.line.now in
    let at = c.in-Some.at in
    let rest = c.in_ok-rest.rest.items in
    let e : first_place (matches (season_of b) state line) hs ≡ Some at = rw c.declaration.ensures.value at (sym c.first_match.ensures.place ∙ c.in-Some.is) in
    let parts = rw c.declaration.ensures.value at c.in_ok-rest.ensures.parts in
    let some : released b state line ≡ Some (replaced_at at rest hs) = released-some b state line at c.holding_at-held.result e c.holding_at-held.ensures ∙ ap (λ (os : List Holding). Some (replaced_at at os hs)) (sym parts) in
    let holdings = c.in_ok-change.ensures.holdings ∙ ap (λ (os : List Holding). replaced_at at os hs) c.deref.ensures.value in
    let freed = subst (AreUsesOf (capacity_of b.declaration) (line_movements (season_of b) line)) (sym c.in_ok-change.ensures.freed) c.in_ok-freed.ensures in
    made b (release_outcome b state line) _ c.in_ok-change.change (sym (release_answers b state line c.cut_counts.ensures c.movement_loads.ensures c.requires.line c.requires.few (replaced_at at rest hs) some))
    (release_gives b state line c.cut_counts.ensures c.movement_loads.ensures c.requires.line c.requires.few (replaced_at at rest hs) some c.in_ok-change.change holdings c.in_ok-change.ensures.places freed c.in_ok-change.ensures.taken)
