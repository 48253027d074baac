use Rattle.std.proofs.Common.{◌≡◌, length}
use Rattle.choice_problem.specs.Loops.{run_uses}
use Rattle.report_lines.specs.Private.{MovesUses}
use Rattle.report_lines.proofs.least.move_run.Given as goal

abbrev pub invariant-loop-at : goal.invariant-loop-at
invariant-loop-at l = record {
  count : length l.counts ≡ length l.fn.counts;
  moves : MovesUses l.fn.counts l.fn.used.items l.counts l.used.items (run_uses l.start l.at);
}
