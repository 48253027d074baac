use Rattle.std.proofs.Common.{◌≡◌, ℕ, ◌-◌, ◌<◌, ◌≤◌}
use Rattle.left_counts.specs.Private.Marks.{mark_at}
use Rattle.left_counts.proofs.words.are_clear_across.Given as goal

abbrev pub invariant-loop-at : goal.invariant-loop-at
invariant-loop-at l = record {
  from : l.start ≤ l.at;
  clear : (r : ℕ) → l.start ≤ r → r < l.at → mark_at l.words r ≡ 0;
}

abbrev pub decreases-loop-at : goal.decreases-loop-at
decreases-loop-at l = l.end - l.at
