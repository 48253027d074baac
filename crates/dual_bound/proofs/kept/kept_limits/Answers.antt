use Rattle.std.proofs.Common.{◌≡◌, ◌<◌, ◌∙◌, arith}
use Rattle.std.proofs.lemmas.Int.{ints, to_z-of_z}
use mir.Syntax.{w64}
use mir.Val.{SFits}
use Rattle.choice_problem.specs.Problems.{resource_count}
use Rattle.dual_bound.proofs.RankLemmas.{rank-small, AreLimitsTo-push, AreLimitsTo-same}
use Rattle.dual_bound.proofs.kept.kept_limits.Goals as goal
use Rattle.dual_bound.proofs.kept.kept_limits.Goals.{then-ranks-at+in_ok-push, else-ranks-at}

pub loop-resource-preserved : goal.loop-resource-preserved
loop-resource-preserved c =
    let p = c.args.problem.now in
    let ranks = c.args.ranks.now in
    let resource = c.loop-resource.resource in
    let limits = c.loop-resource.limits.items in
    let there : resource < resource_count p = omega (arith, c.loop-resource-test.true, c.loop-resource.auto, c.resources-resource-end.ensures.count) in
    elim c.if-ranks-at.branch [
      | then-ranks-at+in_ok-push w ↦
          let fits : SFits w64 w.limit.result = omega (arith, ints, w.limit.ensures.value, w.limit.ensures.small) in
          rw (w.limits-is, w.in_ok-push.ensures.items)
          (AreLimitsTo-push p ranks resource limits _ c.requires there w.if-ranks-at.true (to_z-of_z w64 w.limit.result fits ∙ w.limit.ensures.value) w.limit.ensures.small c.loop-resource.invariant)
      | else-ranks-at w ↦ rw w.limits-is (AreLimitsTo-same p ranks resource limits c.requires there w.if-ranks-at.false c.loop-resource.invariant)
    ]

pub returns-clause-few : goal.returns-clause-few
returns-clause-few c =
    let p = c.args.problem.now in
    let all : c.loop-resource.resource ≡ resource_count p = omega (arith, c.loop-resource-test.false, c.resources-resource-end.ensures.count, c.loop-resource.auto.resource-end) in
    omega (arith, all, c.loop-resource.invariant.count, c.resources-resource-end.ensures.count, c.resources-resource-end.ensures.few, rank-small (resource_count p) c.args.ranks.now c.loop-resource.resource c.requires (omega (arith, all)))
