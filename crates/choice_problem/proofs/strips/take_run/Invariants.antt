use Rattle.std.proofs.Common.{◌≡◌, ℕ, ◌+◌, ◌<◌, length, slice_index}
use Rattle.choice_problem.specs.Loops.{run_uses}
use Rattle.choice_problem.proofs.strips.take_run.Given as goal

abbrev pub invariant-loop-at : goal.invariant-loop-at
invariant-loop-at l = (r : ℕ) → r < length l.fn.counts → slice_index l.fn.counts r ≡ slice_index l.counts r + run_uses l.start l.at r
