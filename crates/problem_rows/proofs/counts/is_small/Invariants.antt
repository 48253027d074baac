use Rattle.std.proofs.Common.{ℕ, ◌*◌, ◌≤◌, take}
use Rattle.choice_problem.specs.Strips.{part_uses}
use Rattle.problem_rows.proofs.counts.is_small.Given as goal

abbrev pub invariant-loop-strip : goal.invariant-loop-strip
invariant-loop-strip l = (r : ℕ) → part_uses (take l.strip-index l.strips) r ≤ l.strip-index * 10
