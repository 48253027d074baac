use Rattle.std.proofs.Common.{◌≡◌, ℕ, ◌<◌, take}
use Rattle.choice_problem.specs.Strips.{part_uses}
use Rattle.left_counts.specs.Private.Marks.{mark_at}
use Rattle.left_counts.proofs.marks.part_is_clear.Given as goal

abbrev pub invariant-loop-strip : goal.invariant-loop-strip
invariant-loop-strip l = (r : ℕ) → 0 < part_uses (take l.strip-index l.strip-items) r → mark_at l.words r ≡ 0
