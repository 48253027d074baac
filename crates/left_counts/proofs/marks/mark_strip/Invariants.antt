use Rattle.std.proofs.Common.{◌≡◌, length}
use Rattle.finite_sums.specs.Sums.{count_below}
use Rattle.choice_problem.specs.Strips.{is_in_run}
use Rattle.left_counts.specs.Private.Marks.{AreMarked}
use Rattle.left_counts.proofs.marks.mark_strip.Given as goal

abbrev pub invariant-loop-i : goal.invariant-loop-i
invariant-loop-i l = record {
  length : length l.words ≡ length l.fn.words;
  marks : AreMarked l.left (λ r. count_below l.i (λ i. is_in_run l.strip r i)) l.fn.words l.words;
}
