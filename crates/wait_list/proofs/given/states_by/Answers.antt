use Rattle.std.proofs.Common.{◌≡◌, List, sym, ap, ◌∙◌, subst}
use Rattle.std.specs.Prelude.{All}
use Rattle.season_days.specs.Term.{Term}
use Rattle.season_days.specs.declared.declaration.Declaration.{Declaration}
use Rattle.scr_reader.specs.Printed.{LineFits}
use Rattle.scr_reader.specs.declared.line.Line.{Line}
use Rattle.wait_list.specs.Waiting.{waiting_terms, given_states}
use Rattle.wait_list.proofs.given.states_by.Goals as goal

pub given_states-requires-clause-step : goal.given_states-requires-clause-step
given_states-requires-clause-step c = c.in_ok-terms.ensures.keeps.capacity.step

pub given_states-requires-clause-lines : goal.given_states-requires-clause-lines
given_states-requires-clause-lines c =
    let d = c.args.book.now.book.declaration in
    let terms : c.in_ok-terms.terms ≡ waiting_terms d = c.in_ok-terms.ensures.terms ∙ ap waiting_terms c.declaration.ensures.value in
    subst (λ (lines : List Line). All (LineFits c.in_ok-terms.terms.season) lines) (sym c.lines.ensures.value)
    (subst (λ (season : Term). All (LineFits season) c.args.waiting.now) (sym (ap (λ (x : Declaration). x.season) terms)) c.requires)

pub returns : goal.returns
returns c =
    let d = c.args.book.now.book.declaration in
    let numbers = c.args.numbers.now in
    let terms : c.in_ok-terms.terms ≡ waiting_terms d = c.in_ok-terms.ensures.terms ∙ ap waiting_terms c.declaration.ensures.value in
    c.in_ok-states.ensures ∙ (ap (λ (x : Declaration). given_states x c.lines.result.now numbers) terms ∙ ap (λ (lines : List Line). given_states (waiting_terms d) lines numbers) c.lines.ensures.value)
