use Rattle.std.proofs.Common.{ℕ, ◌<◌, List, length, sym, ap₂, ◌∙◌, subst, true≢false}
use Rattle.choice_problem.specs.Problems.{ProblemView}
use Rattle.cost_fixing.specs.Fixings.{LeftView}
use Rattle.cost_fixing.specs.Loops.{alts_in}
use Rattle.cost_fixing.proofs.StepLemmas.{left-same, left-has, has-left, left-alts-of, left-numbered}
use Rattle.cost_fixing.proofs.left.left_of.Goals as goal

pub returns-then-not-has_each-clause-none : goal.returns-then-not-has_each-clause-none
returns-then-not-has_each-clause-none c = λ h.
    let each = has-left c.args.problem.now c.args.table.now.prices c.args.scale c.args.cost c.deref.result.now (c.deref.ensures.value ∙ c.in_ok-alts.ensures) h in
    true≢false (sym (c.has_each.ensures.1 each) ∙ c.if-not-has_each.true)

pub problem_with-requires : goal.problem_with-requires
problem_with-requires c =
    let each = c.has_each.ensures.0 c.if-not-has_each.false in
    left-alts-of c.args.problem.now c.args.table.now.prices c.args.scale c.args.cost c.deref-2.result.now (c.deref-2.ensures.value ∙ c.in_ok-alts.ensures)
    (subst (λ (alts : List (List ℕ)). (u : ℕ) → u < length alts → 0 < length (alts_in alts u)) (c.deref.ensures.value ∙ sym c.deref-2.ensures.value) each)

pub invariant_of-result : goal.invariant_of-result
invariant_of-result c =
    let p = c.args.problem.now in
    let prices = c.args.table.now.prices in
    left-numbered p prices c.args.scale c.args.cost c.in_ok-alts.alts.items c.in_ok-alts.ensures c.in_ok-left.left
    (c.in_ok-left.ensures ∙ left-same p prices c.args.scale c.args.cost c.deref-2.result.now (c.deref-2.ensures.value ∙ c.in_ok-alts.ensures))

pub returns-clause-value : goal.returns-clause-value
returns-clause-value c =
    ap₂ {C = LeftView} (λ (q : ProblemView) (alts : List (List ℕ)). record { problem = q; alts = alts })
    (c.in_ok-left.ensures
    ∙ left-same c.args.problem.now c.args.table.now.prices c.args.scale c.args.cost c.deref-2.result.now (c.deref-2.ensures.value ∙ c.in_ok-alts.ensures))
    c.in_ok-alts.ensures

pub returns-clause-some : goal.returns-clause-some
returns-clause-some c =
    left-has c.args.problem.now c.args.table.now.prices c.args.scale c.args.cost c.deref.result.now (c.deref.ensures.value ∙ c.in_ok-alts.ensures)
    (c.has_each.ensures.0 c.if-not-has_each.false)
