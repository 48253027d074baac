use Rattle.std.proofs.Common.{◌≡◌, length}
use Rattle.choice_problem.specs.Loops.{run_uses}
use Rattle.left_counts.specs.Private.Marks.{AreCleared}
use Rattle.left_counts.proofs.marks.clear_run.Given as goal

abbrev pub invariant-loop-at : goal.invariant-loop-at
invariant-loop-at l = record {
  length : length l.words ≡ length l.fn.words;
  marks : AreCleared (λ r. run_uses l.start l.at r) l.fn.words l.words;
}
