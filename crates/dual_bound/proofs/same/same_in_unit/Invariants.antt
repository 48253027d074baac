use Rattle.std.proofs.Common.{◌≡◌, ℕ, ◌<◌, length}
use Rattle.choice_problem.specs.Problems.{chooser_at, part_at}
use Rattle.dual_bound.specs.Same.{strips_at, same_part_at}
use Rattle.dual_bound.proofs.same.same_in_unit.Given as goal

abbrev pub invariant-loop-number : goal.invariant-loop-number
invariant-loop-number l = record {
  count : length l.parts.items ≡ l.number;
  each : (n : ℕ) → n < l.number → strips_at l.problem (same_part_at l.parts.items n) ≡ part_at (chooser_at l.problem l.unit) n;
}
