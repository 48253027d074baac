use Rattle.std.proofs.Common.{ℕ, ◌<◌}
use Rattle.std.specs.Prelude.{slice_index_or}
use Rattle.choice_problem.specs.Strips.{IsStripInRange}
use Rattle.choice_problem.proofs.strips.Part.is_within.Given as goal

abbrev pub invariant-loop-strip : goal.invariant-loop-strip
invariant-loop-strip l =
    (k : ℕ) → k < l.strip-index → IsStripInRange l.resources (slice_index_or l.strip-items k (record { first = 0; width = 0; gap = 0; times = 0 }))
