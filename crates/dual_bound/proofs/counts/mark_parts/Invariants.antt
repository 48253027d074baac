use Rattle.dual_bound.specs.Kept.{MarkNamed}
use Rattle.dual_bound.proofs.counts.mark_parts.Given as goal

abbrev pub invariant-loop-at : goal.invariant-loop-at
invariant-loop-at l = MarkNamed l.second l.alts l.at l.marks
