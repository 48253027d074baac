use Rattle.std.proofs.Common.{◌≡◌, ℕ, ◌<◌}
use Rattle.finite_sums.specs.Sums.{count_below}
use Rattle.choice_problem.specs.Strips.{is_in_run}
use Rattle.left_counts.specs.Private.Marks.{mark_at}
use Rattle.left_counts.proofs.marks.strip_is_clear.Given as goal

abbrev pub invariant-loop-i : goal.invariant-loop-i
invariant-loop-i l = (r : ℕ) → 0 < count_below l.i (λ i. is_in_run l.strip r i) → mark_at l.words r ≡ 0
