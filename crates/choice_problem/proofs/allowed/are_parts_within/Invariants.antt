use Rattle.std.proofs.Common.{ℕ, ◌<◌, []}
use Rattle.std.specs.Prelude.{slice_index_or}
use Rattle.choice_problem.specs.Strips.{IsPartInRange}
use Rattle.choice_problem.proofs.allowed.are_parts_within.Given as goal

abbrev pub invariant-loop-part : goal.invariant-loop-part
invariant-loop-part l = (k : ℕ) → k < l.part-index → IsPartInRange l.resources (slice_index_or l.parts k [])
