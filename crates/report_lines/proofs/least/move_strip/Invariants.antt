use Rattle.std.proofs.Common.{◌≡◌, ℕ, length}
use Rattle.finite_sums.specs.Sums.{count_below}
use Rattle.choice_problem.specs.Strips.{is_in_run}
use Rattle.report_lines.specs.Private.{MovesUses}
use Rattle.report_lines.proofs.least.move_strip.Given as goal

abbrev pub invariant-loop-i : goal.invariant-loop-i
invariant-loop-i l = record {
  count : length l.counts ≡ length l.fn.counts;
  moves : MovesUses l.fn.counts l.fn.used.items l.counts l.used.items (λ (r : ℕ). count_below l.i (is_in_run l.strip r));
}
