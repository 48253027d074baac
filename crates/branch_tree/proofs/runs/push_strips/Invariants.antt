use Rattle.std.proofs.Common.{◌≡◌, ℕ, ◌+◌, ◌<◌, length, slice_index, take}
use Rattle.std.specs.Prelude.{All}
use Rattle.choice_problem.specs.Strips.{part_uses}
use Rattle.branch_tree.specs.Runs.{times_held, IsRunBelow}
use Rattle.branch_tree.proofs.runs.push_strips.Given as goal

abbrev pub invariant-loop-strip : goal.invariant-loop-strip
invariant-loop-strip l = record {
  uses : (i : ℕ) → i < length l.listed → times_held l.runs.items i ≡ times_held l.fn.runs.items i + part_uses (take l.strip-index l.strips) (slice_index l.listed i);
  below : All (IsRunBelow (length l.listed)) l.runs.items;
}
