use Rattle.std.proofs.Common.{◌≡◌, ℕ, ◌++◌, ◌∷◌, [], false, eqb, subst, ap, ◌∙◌, sym, refl}
use Rattle.holding_book.specs.declared.holding.State.TheVariants.{Confirmed, Offered}
use Rattle.holding_book.specs.Books.{season_of, confirmed}
use Rattle.holding_book.specs.Asks.{AskOutcome}
use Rattle.holding_book.specs.Private.Steps.{held_book, IsAskStep}
use Rattle.std.specs.Prelude.{IfOk}
use Rattle.std.proofs.Common.{inl, inr}
use Rattle.std.proofs.lemmas.Bool.{cases_Bool, eqb-true}
use Rattle.season_days.specs.declared.declaration.Declaration.{Declaration}
use Rattle.scr_reader.specs.Printed.{LineFits}
use Rattle.scr_reader.specs.declared.line.Line.{Line}
use Rattle.series_model.specs.declared.times.Times.{Times}
use Rattle.series_model.specs.Options.{line_times}
use Rattle.series_model.specs.Displacement.{cost_at}
use Rattle.holding_book.specs.declared.answer.Answer.TheVariants.{K as granted, Offer as offer}
use Rattle.holding_book.specs.Asks.{offer_outcome}
use Rattle.holding_book.specs.Books.{offered, best_times}
use Rattle.holding_book.proofs.RowLemmas.{same_holding}
use Rattle.holding_book.proofs.OfferLemmas.{best-none, found_spelled, offered_by_cost}
use Rattle.holding_book.proofs.rows.place_new.Goals as goal

pub returns-in_default : goal.returns-in_default
returns-in_default c =
    let b = held_book c.args.loads.now c.args.holdings.now in
    subst (λ (o : AskOutcome). IsAskStep b o c.stays.result) (sym (best-none b c.args.line.now (sym c.requires.best ∙ c.in_default.is))) (c.stays.ensures b)

pub append_step-requires-2-clause-line : goal.append_step-requires-2-clause-line
append_step-requires-2-clause-line c =
    let b = held_book c.args.loads.now c.args.holdings.now in
    let fit = found_spelled c.shift_bounds.ensures.times c.shift_bounds.ensures.spelled b c.args.line.now c.in-Some.found c.requires.line (sym c.in-Some.is ∙ c.requires.best) in
    subst (λ (l : Line). LineFits (season_of b) l) (sym c.held_as-new-2.ensures.line) fit

-- the cost of the line that was found
cost_is : (d now : Declaration) (line found : Line) (times : Times) (cost : ℕ) → now ≡ d → times ≡ line_times found → cost ≡ cost_at now line times → cost_at d line (line_times found) ≡ cost
cost_is d now line found times cost e f g = sym (g ∙ ap (λ (k : Declaration). cost_at k line times) e ∙ ap (cost_at d line) f)

pub returns-then-line_displacement-eq0 : goal.returns-then-line_displacement-eq0
returns-then-line_displacement-eq0 c =
    let b = held_book c.args.loads.now c.args.holdings.now in
    let line = c.args.line.now in
    let found = c.in-Some.found in
    let new = c.held_as-new.result in
    let cost : cost_at b.declaration line (line_times found) ≡ 0 = cost_is b.declaration c.declaration.result.now line found c.line_times.result c.line_displacement.result c.declaration.ensures.value c.line_times.ensures c.line_displacement.ensures ∙ c.if-line_displacement-eq0.true in
    let free = offered_by_cost c.shift_bounds.ensures.times c.shift_bounds.ensures.spelled b line found c.requires.line (sym c.in-Some.is ∙ c.requires.best) in
    let is_new : new ≡ confirmed line = same_holding new line Confirmed c.held_as-new.ensures.line c.held_as-new.ensures.state in
    let o : offer_outcome b line (best_times b line) ≡ record { answer = granted; holdings = b.holdings ++ new ∷ [] } = free ∙ rw (cost, is_new) refl in
    subst (λ (o : AskOutcome). IfOk c.append_step.result (λ step. IsAskStep b o step)) (sym o) c.append_step.ensures

pub returns : goal.returns
returns c =
    let b = held_book c.args.loads.now c.args.holdings.now in
    let line = c.args.line.now in
    let found = c.in-Some.found in
    let new = c.held_as-new-2.result in
    let cost = cost_is b.declaration c.declaration.result.now line found c.line_times.result c.line_displacement.result c.declaration.ensures.value c.line_times.ensures c.line_displacement.ensures in
    let some : eqb (cost_at b.declaration line (line_times found)) 0 ≡ false = elim (cases_Bool (eqb (cost_at b.declaration line (line_times found)) 0)) [
      | inl e ↦ absurd (c.if-line_displacement-eq0.false (sym cost ∙ eqb-true (cost_at b.declaration line (line_times found)) 0 e))
      | inr e ↦ e
    ] in
    let costly = offered_by_cost c.shift_bounds.ensures.times c.shift_bounds.ensures.spelled b line found c.requires.line (sym c.in-Some.is ∙ c.requires.best) in
    let is_new : new ≡ offered found = same_holding new found Offered c.held_as-new-2.ensures.line c.held_as-new-2.ensures.state in
    let o : offer_outcome b line (best_times b line) ≡ record { answer = offer found; holdings = b.holdings ++ new ∷ [] } = costly ∙ rw (some, is_new) refl in
    subst (λ (o : AskOutcome). IfOk c.append_step-2.result (λ step. IsAskStep b o step)) (sym o) c.append_step-2.ensures
