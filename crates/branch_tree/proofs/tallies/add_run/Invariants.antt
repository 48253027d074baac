use Rattle.std.proofs.Common.{◌≡◌, ℕ, ◌+◌, ◌<◌, length, slice_index}
use Rattle.choice_problem.specs.Loops.{run_uses}
use Rattle.branch_tree.proofs.tallies.add_run.Given as goal

abbrev pub invariant-loop-at : goal.invariant-loop-at
invariant-loop-at l = (i : ℕ) → i < length l.fn.counts → slice_index l.counts i ≡ slice_index l.fn.counts i + run_uses l.from l.at i
