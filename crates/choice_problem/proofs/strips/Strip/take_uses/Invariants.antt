use Rattle.std.proofs.Common.{◌≡◌, ℕ, ◌+◌, ◌<◌, length, slice_index}
use Rattle.std.specs.Prelude.{if◌then◌else◌}
use Rattle.finite_sums.specs.Sums.{sum_below}
use Rattle.choice_problem.specs.Strips.{is_in_run}
use Rattle.choice_problem.proofs.strips.Strip.take_uses.Given as goal

abbrev pub invariant-loop-i : goal.invariant-loop-i
invariant-loop-i l = (r : ℕ) → r < length l.fn.counts →
    slice_index l.fn.counts r ≡ slice_index l.counts r + sum_below l.i (λ i. if is_in_run l.self r i then 1 else 0)
