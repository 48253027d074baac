use Rattle.std.proofs.Common.{◌≡◌, ◌++◌, ◌∷◌, [], List, length, Some, None, subst, ap, ◌∙◌, sym, refl, arith}
use Rattle.std.specs.Prelude.{All}
use Rattle.std.specs.Option.{ForSome}
use Rattle.std.specs.List.{slice_get}
use Rattle.std.proofs.lemmas.List.Elements.{All-append, All-cons, All-nil}
use Rattle.holding_book.specs.declared.holding.Holding.{Holding}
use Rattle.holding_book.specs.declared.holding.State.TheVariants.{Confirmed, Offered}
use Rattle.holding_book.specs.Lines.{matches, cut_holding, in_period}
use Rattle.holding_book.specs.Books.{season_of, confirmed}
use Rattle.holding_book.specs.Asks.{AskOutcome, accept_by, accept_outcome}
use Rattle.holding_book.specs.Private.Steps.{held_book, first_place, replaced_at, HasFlightsOf, IsAskStep}
use Rattle.holding_book.proofs.RowLemmas.{accepted, accepted-none, accepted-some, accept_answers, accept_gives, made, flights_at, few_parts, same_holding}
use Rattle.holding_book.proofs.rows.accept.Goals as goal

pub returns-in_default : goal.returns-in_default
returns-in_default c =
    let b = held_book c.args.loads.now c.args.holdings.now in
    let e : first_place (matches (season_of b) Offered c.args.line.now) b.holdings ≡ None = rw c.declaration.ensures.value at (sym c.first_match.ensures.place ∙ c.in_default.is) in
    subst (λ (o : AskOutcome). IsAskStep b o c.stays.result) (sym (ap (accept_by b) (accepted-none b c.args.line.now e))) (c.stays.ensures b)

pub replace_change-requires-clause-few : goal.replace_change-requires-clause-few
replace_change-requires-clause-few c = omega (arith, c.requires.few, ap (λ (l : List Holding). length l) c.deref.ensures.value, c.in_ok-push.ensures.len, few_parts c.declaration.result.now.season c.args.line.now.period c.holding_at-held.result c.in_ok-rest.rest.items c.in_ok-rest.ensures.parts)

pub replace_change-requires-clause-flights : goal.replace_change-requires-clause-flights
replace_change-requires-clause-flights c =
    let held = c.holding_at-held.result in
    let rest = c.in_ok-rest.rest.items in
    let last = c.held_as.result in
    let P = HasFlightsOf held.line in
    let line : last.line ≡ (in_period held c.args.line.now.period).line = c.held_as.ensures.line ∙ ap (λ (h : Holding). h.line) c.in_period.ensures in
    let here : P last = λ flight. rw line refl in
    subst (λ (os : List Holding). ForSome (slice_get c.args.holdings.now c.in-Some.at) (λ h. All (HasFlightsOf h.line) os)) (sym (c.deref.ensures.value ∙ c.in_ok-push.ensures.items))
    (flights_at c.args.holdings.now c.in-Some.at held (rest ++ last ∷ []) c.holding_at-held.ensures
    (All-append P rest (last ∷ []) c.in_ok-rest.ensures.flights (All-cons P last [] here (All-nil P))))

pub returns : goal.returns
returns c =
    let hs = c.args.holdings.now in
    let b = held_book c.args.loads.now hs in
    let line = c.args.line.now in
    let at = c.in-Some.at in
    let rest = c.push.new.self.items in
    let held = c.holding_at-held.result in
    let last = c.held_as.result in
    let e : first_place (matches (season_of b) Offered line) hs ≡ Some at = rw c.declaration.ensures.value at (sym c.first_match.ensures.place ∙ c.in-Some.is) in
    let parts : c.in_ok-rest.rest.items ≡ cut_holding (season_of b) line.period held = rw c.declaration.ensures.value at c.in_ok-rest.ensures.parts in
    let is_line : last.line ≡ (in_period held line.period).line = c.held_as.ensures.line ∙ ap (λ (h : Holding). h.line) c.in_period.ensures in
    let is_last : last ≡ confirmed (in_period held line.period).line = same_holding last (in_period held line.period).line Confirmed is_line c.held_as.ensures.state in
    let items : rest ≡ cut_holding (season_of b) line.period held ++ confirmed (in_period held line.period).line ∷ [] =
    c.in_ok-push.ensures.items ∙ ap (λ (os : List Holding). os ++ last ∷ []) parts ∙ ap (λ (h : Holding). cut_holding (season_of b) line.period held ++ h ∷ []) is_last in
    let some : accepted b line ≡ Some (replaced_at at rest hs) = accepted-some b line at c.holding_at-held.result e c.holding_at-held.ensures ∙ ap (λ (os : List Holding). Some (replaced_at at os hs)) (sym items) in
    let holdings = c.in_ok-change.ensures.holdings ∙ ap (λ (os : List Holding). replaced_at at os hs) c.deref.ensures.value in
    let freed = rw (← c.in_ok-change.ensures.freed) at c.no_uses.ensures in
    made b (accept_outcome b line) _ c.in_ok-change.change (sym (accept_answers b line c.cut_counts.ensures c.movement_loads.ensures c.requires.line c.requires.few (replaced_at at rest hs) some))
    (accept_gives b line c.cut_counts.ensures c.movement_loads.ensures c.requires.line c.requires.few (replaced_at at rest hs) some c.in_ok-change.change holdings c.in_ok-change.ensures.places freed c.in_ok-change.ensures.taken)
