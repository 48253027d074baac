use Rattle.std.proofs.Common.{◌≡◌, ◌∙◌, sym, arith}
use Rattle.std.specs.Prelude.{slice_index}
use Rattle.choice_problem.specs.Problems.{resource_count, limit_of}
use Rattle.dual_bound.proofs.StepLemmas.{priced-vector_of}
use Rattle.dual_bound.proofs.points.priced_limits.Goals as goal

pub returns-clause-value : goal.returns-clause-value
returns-clause-value c =
    let p = c.args.problem.now in
    let all : c.loop-resource.resource ≡ resource_count p = omega (arith, c.loop-resource-test.false, c.resources-resource-end.ensures.count, c.loop-resource.auto.resource-end) in
    rw all at c.loop-resource.invariant.total ∙ sym (priced-vector_of (resource_count p) (λ r. slice_index c.args.prices.now r) (λ r. limit_of p r))
