use Rattle.std.proofs.Common.{length}
use Rattle.dual_bound.proofs.counts.count_marked.Goals as goal

pub count_cover-requires : goal.count_cover-requires
count_cover-requires c = record {
  within = rw c.deref.ensures.value (c.in_ok-cover.ensures.there (length c.args.counts.now) c.requires.within);
}
