use Rattle.std.proofs.Common.{◌<◌, length, arith}
use Rattle.std.specs.Prelude.{slice_index}
use Rattle.branch_tree.proofs.ListLemmas.{listed-within, times-more_le, one_at-same}
use Rattle.branch_tree.proofs.tallies.add_list.Goals as goal

pub bounds-counts-resource : goal.bounds-counts-resource
bounds-counts-resource c =
    omega (arith, listed-within (length c.args.counts.now) c.args.list.now c.loop-resource.resource-index c.requires.within c.loop-resource-test.true)

pub overflow_add-counts : goal.overflow_add-counts
overflow_add-counts c =
    let list = c.args.list.now in
    let k = c.loop-resource.resource-index in
    let r = slice_index list k in
    let there : r < length c.args.counts.now = listed-within (length c.args.counts.now) list k c.requires.within c.loop-resource-test.true in
    omega (arith, c.loop-resource.invariant r there, c.requires.room r there, times-more_le list k r c.loop-resource-test.true, one_at-same r)

pub bounds-counts-resource-in-loop-resource : goal.bounds-counts-resource-in-loop-resource
bounds-counts-resource-in-loop-resource c =
    omega (arith, listed-within (length c.args.counts.now) c.args.list.now c.loop-resource.resource-index c.requires.within c.loop-resource-test.true)
