use Rattle.std.proofs.Common.{◌≡◌, ℕ, ◌+◌, ◌<◌, length, slice_index, take}
use Rattle.branch_tree.specs.Runs.{times_held}
use Rattle.branch_tree.proofs.tallies.take_runs.Given as goal

abbrev pub invariant-loop-run : goal.invariant-loop-run
invariant-loop-run l = (i : ℕ) → i < length l.fn.counts → slice_index l.fn.counts i ≡ slice_index l.counts i + times_held (take l.run-index l.runs) i
