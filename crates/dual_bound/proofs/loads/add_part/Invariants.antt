use Rattle.std.proofs.Common.{ℕ, ◌+◌, ◌<◌, ◌^◌, take}
use Rattle.choice_problem.specs.Strips.{part_uses}
use Rattle.dual_bound.specs.Ends.{AreEnds}
use Rattle.dual_bound.proofs.loads.add_part.Given as goal

abbrev pub invariant-loop-strip : goal.invariant-loop-strip
invariant-loop-strip l = (n : ℕ) (uses : ℕ → ℕ) → AreEnds n uses l.fn.begins l.fn.ends →
    ((r : ℕ) → r < n → uses r + part_uses l.strip-items r < 2 ^ 32) →
    AreEnds n (λ r. uses r + part_uses (take l.strip-index l.strip-items) r) l.begins l.ends
