use Rattle.std.proofs.Common.{◌≡◌, ℕ, ◌+◌, ◌<◌, length, slice_index, take}
use Rattle.branch_tree.specs.Lists.{times_in}
use Rattle.branch_tree.proofs.tallies.add_list.Given as goal

abbrev pub invariant-loop-resource : goal.invariant-loop-resource
invariant-loop-resource l = (r : ℕ) → r < length l.fn.counts → slice_index l.counts r ≡ slice_index l.fn.counts r + times_in (take l.resource-index l.list) r
