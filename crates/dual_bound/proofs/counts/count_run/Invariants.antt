use Rattle.std.proofs.Common.{ℕ, ◌+◌}
use Rattle.choice_problem.specs.Loops.{run_uses}
use Rattle.dual_bound.specs.Kept.{AreAtLeast, AreRaised}
use Rattle.dual_bound.proofs.counts.count_run.Given as goal

abbrev pub invariant-loop-at : goal.invariant-loop-at
invariant-loop-at l = record {
  counted : (uses : ℕ → ℕ) → AreAtLeast l.fn.counts uses → AreAtLeast l.counts (λ r. uses r + run_uses l.start l.at r);
  raised : AreRaised l.fn.counts l.counts;
}
