use Rattle.std.proofs.Common.{ℕ, ◌+◌, ◌<◌, ◌^◌}
use Rattle.std.specs.Prelude.{if◌then◌else◌}
use Rattle.finite_sums.specs.Sums.{sum_below}
use Rattle.choice_problem.specs.Strips.{is_in_run, strip_uses}
use Rattle.dual_bound.specs.Ends.{AreEnds}
use Rattle.dual_bound.proofs.loads.add_strip.Given as goal

abbrev pub invariant-loop-run : goal.invariant-loop-run
invariant-loop-run l = (n : ℕ) (uses : ℕ → ℕ) → AreEnds n uses l.fn.begins l.fn.ends →
    ((r : ℕ) → r < n → uses r + strip_uses l.strip r < 2 ^ 32) →
    AreEnds n (λ r. uses r + sum_below l.run (λ i. if is_in_run l.strip r i then 1 else 0)) l.begins l.ends
