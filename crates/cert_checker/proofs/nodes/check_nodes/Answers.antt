use Rattle.std.proofs.Common.{ℕ, ◌≡◌, ◌∷◌, [], List, sym, ap, ◌∙◌, subst}
use Rattle.std.specs.Prelude.{All, IfOk}
use Rattle.std.proofs.lemmas.List.Elements.{All-cons, All-nil}
use Rattle.choice_problem.specs.Bounds.{AreRanges, whole_of}
use Rattle.cert_checker.specs.declared.lines.Judged.{Judged}
use Rattle.cert_checker.specs.Tests.{node_tests}
use Rattle.cert_checker.specs.Parts.{IsPart, unfixed}
use Rattle.cert_checker.proofs.StateLemmas.{state-back}
use Rattle.cert_checker.proofs.nodes.check_nodes.Goals as goal

pub walk_nodes-requires-clause-ranges : goal.walk_nodes-requires-clause-ranges
walk_nodes-requires-clause-ranges c =
    let p = c.args.problem.now in
    subst (All (AreRanges p)) (sym c.new-walk.ensures)
    (All-cons (AreRanges p) c.in_ok-whole.whole [] c.in_ok-whole.ensures.there (All-nil (AreRanges p)))

pub walk_nodes-requires-clause-state : goal.walk_nodes-requires-clause-state
walk_nodes-requires-clause-state c =
    let p = c.args.problem.now in
    let walk_is : c.new-walk.result ≡ whole_of p ∷ [] = c.new-walk.ensures ∙ ap (λ (w : List (ℕ × ℕ)). w ∷ []) c.in_ok-whole.ensures.value in
    state-back p c.args.cert.now.vectors c.new-walk.result [] (whole_of p) c.in_ok-state.state walk_is c.in_ok-state.ensures

pub returns : goal.returns
returns c =
    let p = c.args.problem.now in
    let cert = unfixed c.args.cert.now in
    let walk_is : c.new-walk.result ≡ whole_of p ∷ [] = c.new-walk.ensures ∙ ap (λ (w : List (ℕ × ℕ)). w ∷ []) c.in_ok-whole.ensures.value in
    subst (λ (w : List (List (ℕ × ℕ))). IfOk c.walk_nodes.result (λ (j : Judged). IsPart p cert c.args.line (node_tests w cert.tree cert.floors) j.verdict j.next)) walk_is c.walk_nodes.ensures
