use Rattle.std.proofs.Common.{◌≡◌, ℕ, ◌+◌, ◌<◌, length, slice_index}
use Rattle.std.specs.Prelude.{All}
use Rattle.finite_sums.specs.Sums.{count_below}
use Rattle.choice_problem.specs.Strips.{is_in_run}
use Rattle.branch_tree.specs.Runs.{times_held, IsRunBelow}
use Rattle.branch_tree.proofs.runs.push_strip.Given as goal

abbrev pub invariant-loop-i : goal.invariant-loop-i
invariant-loop-i l = record {
  uses : (i : ℕ) → i < length l.listed → times_held l.runs.items i ≡ times_held l.fn.runs.items i + count_below l.i (λ k. is_in_run l.strip (slice_index l.listed i) k);
  below : All (IsRunBelow (length l.listed)) l.runs.items;
}
