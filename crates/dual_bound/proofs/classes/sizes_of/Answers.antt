use Rattle.std.proofs.Common.{◌<◌, arith}
use Rattle.std.specs.Prelude.{slice_index, nat_eq}
use Rattle.std.proofs.lemmas.Grind.{common_steps}
use Rattle.finite_sums.proofs.SumLemmas.{count_below-le}
use Rattle.dual_bound.proofs.classes.sizes_of.Goals as goal

pub overflow_add-index_mut : goal.overflow_add-index_mut
overflow_add-index_mut c =
    let index = c.loop-class.class-index in
    let class = slice_index c.args.classes.now index in
    let there : class < c.args.count = c.requires.there index c.loop-class-test.true in
    grind (
      arith,
      common_steps,
      c.index_mut.ensures.value,
      c.loop-class.invariant.each class there,
      count_below-le index (λ r. nat_eq (slice_index c.args.classes.now r) class),
      c.loop-class-test.true,
      c.requires.few,
    )
