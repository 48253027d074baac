use Rattle.std.proofs.Common.{arith}
use Rattle.std.proofs.lemmas.Int.{ints}
use Rattle.dual_bound.proofs.RankLemmas.{AreRanksTo-none, AreRanksTo-more}
use Rattle.dual_bound.proofs.kept.ranks_above.Goals as goal

pub loop-resource-init : goal.loop-resource-init
loop-resource-init c = rw (c.in_ok-push.ensures.items, c.in_ok-ranks.ensures.items) (AreRanksTo-none c.args.problem.now c.args.counts.now)

pub loop-resource-preserved : goal.loop-resource-preserved
loop-resource-preserved c =
    let p = c.args.problem.now in
    let counts = c.args.counts.now in
    let next = c.rank_after-rank.result in
    rw c.in_ok-push-2.ensures.items
    (AreRanksTo-more p counts c.loop-resource.resource c.loop-resource.ranks.items c.loop-resource.rank next c.loop-resource.invariant (omega (arith, c.limit.ensures.small)) c.rank_after-rank.ensures.from c.rank_after-rank.ensures.to
    (λ l. omega (arith, ints, c.rank_after-rank.ensures.rest l, c.limit.ensures.value)))
