use Rattle.std.proofs.Common.{ℕ, ◌<◌, slice_index}
use Rattle.std.specs.Prelude.{pos, ◌≤ℤ◌}
use Rattle.choice_problem.specs.Counts.{limit_at}
use Rattle.choice_problem.proofs.choices.first_above_limit.Given as goal

abbrev pub invariant-loop-at : goal.invariant-loop-at
invariant-loop-at l = (r : ℕ) → r < l.at → pos (slice_index l.counts r) ≤ℤ limit_at l.limits r
