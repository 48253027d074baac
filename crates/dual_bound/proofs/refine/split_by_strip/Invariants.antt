use Rattle.std.proofs.Common.{length}
use Rattle.std.specs.Prelude.{if◌then◌else◌}
use Rattle.finite_sums.specs.Sums.{sum_below}
use Rattle.choice_problem.specs.Strips.{is_in_run}
use Rattle.dual_bound.specs.Classes.{AreSplitBy}
use Rattle.dual_bound.proofs.refine.split_by_strip.Given as goal

abbrev pub invariant-loop-run : goal.invariant-loop-run
invariant-loop-run l =
    AreSplitBy l.part (length l.fn.classes) l.fn.classes l.fn.splits.items l.classes l.splits.items (λ r. sum_below l.run (λ i. if is_in_run l.strip r i then 1 else 0))
