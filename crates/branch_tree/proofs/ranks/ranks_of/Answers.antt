use Rattle.std.proofs.Common.{◌≡◌, arith}
use Rattle.std.proofs.lemmas.List.{length_push}
use Rattle.branch_tree.proofs.ListLemmas.{ranks-push}
use Rattle.branch_tree.proofs.ranks.ranks_of.Goals as goal

pub loop-resource-preserved : goal.loop-resource-preserved
loop-resource-preserved c =
    let i = c.loop-resource.invariant in
    let items = c.loop-resource.ranks.items in
    let rank = c.loop-resource.rank in
    rw c.in_ok-push.ensures.items (record {
      counted = omega (arith, length_push items rank, i.counted);
      few = omega (arith, c.next_rank-rank.ensures.more, i.few);
      each = ranks-push c.args.listed.now items c.loop-resource.resource rank i.counted i.each i.next;
      next = c.next_rank-rank.ensures.next;
    })

pub returns : goal.returns
returns c =
    let i = c.loop-resource.invariant in
    let items = c.loop-resource.ranks.items in
    let rank = c.loop-resource.rank in
    let end : c.loop-resource.resource ≡ c.args.resources = omega (arith, c.loop-resource.auto.resource-end, c.loop-resource-test.false) in
    rw c.in_ok-push-2.ensures.items (record {
      count = omega (arith, length_push items rank, i.counted, end);
      each = λ r l. ranks-push c.args.listed.now items c.loop-resource.resource rank i.counted i.each i.next r (omega (arith, l, end));
    })
