use Rattle.std.proofs.Common.{◌≡◌, ◌<◌, ◌≤◌, ◌^◌, arith}
use Rattle.std.specs.Prelude.{slice_index}
use Rattle.std.proofs.lemmas.Int.{ints}
use Rattle.choice_problem.specs.Problems.{limit_of, resource_count}
use Rattle.dual_bound.proofs.PassableLemmas.{AreAbove-push, AreAbove-same}
use Rattle.dual_bound.proofs.passable.resources_above.Goals as goal
use Rattle.dual_bound.proofs.passable.resources_above.Goals.{then-from-limit+in_ok-push, else-from-limit}

pub loop-resource-preserved : goal.loop-resource-preserved
loop-resource-preserved c =
    let p = c.args.problem.now in
    let counts = c.args.counts.now in
    let resource = c.loop-resource.resource in
    let list = c.loop-resource.list.items in
    let small : limit_of p resource < 2 ^ 20 = omega (arith, c.limit.ensures.small) in
    elim c.if-from-limit.branch [
      | then-from-limit+in_ok-push w ↦ rw (w.list-is, w.in_ok-push.ensures.items) (AreAbove-push p counts resource list small c.loop-resource.invariant)
      | else-from-limit w ↦
          let low : slice_index counts resource ≤ limit_of p resource = omega (arith, ints, w.if-from-limit.false, c.from.ensures, c.limit.ensures.value) in
          rw w.list-is (AreAbove-same p counts resource list small low c.loop-resource.invariant)
    ]

pub returns : goal.returns
returns c =
    let all : c.loop-resource.resource ≡ resource_count c.args.problem.now = omega (arith, c.loop-resource-test.false, c.resources-resource-end.ensures.count, c.loop-resource.auto.resource-end) in
    rw all at c.loop-resource.invariant
