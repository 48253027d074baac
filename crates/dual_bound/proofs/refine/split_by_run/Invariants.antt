use Rattle.std.proofs.Common.{length}
use Rattle.choice_problem.specs.Loops.{run_uses}
use Rattle.dual_bound.specs.Classes.{AreSplitBy}
use Rattle.dual_bound.proofs.refine.split_by_run.Given as goal

abbrev pub invariant-loop-at : goal.invariant-loop-at
invariant-loop-at l = AreSplitBy l.part (length l.fn.classes) l.fn.classes l.fn.splits.items l.classes l.splits.items (λ r. run_uses l.start l.at r)
