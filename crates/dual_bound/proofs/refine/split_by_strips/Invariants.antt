use Rattle.std.proofs.Common.{length, take}
use Rattle.choice_problem.specs.Strips.{part_uses}
use Rattle.dual_bound.specs.Classes.{AreSplitBy}
use Rattle.dual_bound.proofs.refine.split_by_strips.Given as goal

abbrev pub invariant-loop-strip : goal.invariant-loop-strip
invariant-loop-strip l =
    AreSplitBy l.part (length l.fn.classes) l.fn.classes l.fn.splits.items l.classes l.splits.items (λ r. part_uses (take l.strip-index l.strips) r)
