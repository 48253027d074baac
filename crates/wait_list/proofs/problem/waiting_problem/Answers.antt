use Rattle.std.proofs.Common.{◌≡◌, arith, refl, ◌∙◌, ap}
use Rattle.season_days.specs.Capacity.{capacity_of, declared_resources}
use Rattle.season_days.specs.declared.declaration.Declaration.{Declaration}
use Rattle.wait_list.specs.Waiting.{waiting_units, waiting_terms}
use Rattle.wait_list.proofs.ProblemLemmas.{units-fit-at, as-waiting, units-count}
use Rattle.wait_list.proofs.problem.waiting_problem.Goals as goal

pub limits_left-requires : goal.limits_left-requires
limits_left-requires c =
    let d = c.args.book.now.book.declaration in
    let terms : c.in_ok-terms.terms ≡ waiting_terms d = c.in_ok-terms.ensures.terms ∙ ap waiting_terms c.declaration.ensures.value in
    c.resources.ensures.count ∙ ap declared_resources (c.in_ok-windows.ensures.value ∙ ap (λ (x : Declaration). capacity_of x) terms)

pub allotment_problem-requires-clause-units : goal.allotment_problem-requires-clause-units
allotment_problem-requires-clause-units c =
    let d = c.args.book.now.book.declaration in
    let terms : c.in_ok-terms.terms ≡ waiting_terms d = c.in_ok-terms.ensures.terms ∙ ap waiting_terms c.declaration.ensures.value in
    units-fit-at d c.in_ok-terms.terms c.args.waiting.now c.deref.result.now terms (c.deref.ensures.value ∙ (c.in_ok-units.ensures ∙ ap waiting_units c.lines.ensures.value)) c.requires

pub allotment_problem-requires-clause-few : goal.allotment_problem-requires-clause-few
allotment_problem-requires-clause-few c =
    omega (arith, units-count c.lines.result.now c.deref.result.now (c.deref.ensures.value ∙ c.in_ok-units.ensures), c.lines.ensures.few)

pub returns : goal.returns
returns c =
    let b = c.args.book.now.book in
    let d = b.declaration in
    let terms : c.in_ok-terms.terms ≡ waiting_terms d = c.in_ok-terms.ensures.terms ∙ ap waiting_terms c.declaration.ensures.value in
    as-waiting d c.in_ok-terms.terms c.args.waiting.now c.deref.result.now terms (c.deref.ensures.value ∙ (c.in_ok-units.ensures ∙ ap waiting_units c.lines.ensures.value))
    b c.in_ok-limits.limits.items c.deref-2.result.now c.in_ok-problem.problem refl c.deref-2.ensures.value c.in_ok-problem.ensures c.in_ok-limits.ensures.each
