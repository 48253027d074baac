use Rattle.std.proofs.Common.{◌≡◌, length, take}
use Rattle.choice_problem.specs.Strips.{part_uses}
use Rattle.left_counts.specs.Private.Marks.{AreCleared}
use Rattle.left_counts.proofs.marks.clear_part.Given as goal

abbrev pub invariant-loop-strip : goal.invariant-loop-strip
invariant-loop-strip l = record {
  length : length l.words ≡ length l.fn.words;
  marks : AreCleared (λ r. part_uses (take l.strip-index l.strip-items) r) l.fn.words l.words;
}
