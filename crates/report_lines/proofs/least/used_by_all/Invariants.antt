use Rattle.std.proofs.Common.{◌≡◌, ℕ, ◌-◌, length}
use Rattle.choice_problem.specs.Problems.{alt_uses, resource_count}
use Rattle.window_counts.specs.Placed.{AreZero}
use Rattle.report_lines.specs.Private.{AreUsed}
use Rattle.report_lines.proofs.LeastLemmas.{least_back}
use Rattle.report_lines.proofs.least.used_by_all.Given as goal

abbrev pub invariant-loop-i : goal.invariant-loop-i
invariant-loop-i l = record {
  used : AreUsed (λ (r : ℕ). least_back (λ (alt : ℕ). alt_uses l.problem l.unit alt r) l.alts (l.i - 1)) (resource_count l.problem) l.used.items;
  zeros : AreZero l.counts;
  count : length l.counts ≡ length l.fn.counts;
}
