use Rattle.std.proofs.Common.{◌+◌, take}
use Rattle.std.specs.Prelude.{slice_index}
use Rattle.dual_bound.specs.Kept.{AreAtLeast, AreRaised}
use Rattle.dual_bound.specs.Covers.{cover_uses}
use Rattle.dual_bound.proofs.counts.count_cover.Given as goal

abbrev pub invariant-loop-held : goal.invariant-loop-held
invariant-loop-held l = record {
  counted : AreAtLeast l.counts (λ r. slice_index l.fn.counts r + cover_uses (take l.held-index l.cover) r);
  raised : AreRaised l.fn.counts l.counts;
}
