use Rattle.std.proofs.Common.{◌≡◌, ◌∙◌, ap, arith}
use Rattle.std.specs.Prelude.{slice_index}
use Rattle.choice_problem.specs.Problems.{resource_count}
use Rattle.choice_problem.specs.Roots.{vector_of}
use Rattle.dual_bound.specs.Loops.{vector_in}
use Rattle.dual_bound.proofs.points.vector_in.Goals as goal

pub returns-clause-valid : goal.returns-clause-valid
returns-clause-valid c =
    let p = c.args.problem.now in
    let all : c.loop-resource.resource ≡ resource_count p = omega (arith, c.loop-resource-test.false, c.resources-resource-end.ensures.count, c.loop-resource.auto.resource-end) in
    let value : c.new.result ≡ vector_in p c.args.prices.now =
    c.new.ensures ∙ c.loop-resource.invariant ∙ ap (λ n. vector_of n (λ r. slice_index c.args.prices.now r)) all in
    rw value (c.price_vectors.ensures.valid p (λ r. slice_index c.args.prices.now r) c.requires.small)
