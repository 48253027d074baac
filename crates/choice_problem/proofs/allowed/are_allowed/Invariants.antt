use Rattle.std.proofs.Common.{ℕ, ◌<◌, None}
use Rattle.std.specs.Prelude.{slice_index_or}
use Rattle.choice_problem.specs.Allowed.{IsAllowedAlt}
use Rattle.choice_problem.proofs.allowed.are_allowed.Given as goal

abbrev pub invariant-loop-alt : goal.invariant-loop-alt
invariant-loop-alt l =
    (k : ℕ) → k < l.alt-index → IsAllowedAlt l.parts (slice_index_or l.alts k (record { cost = 0; one = None; two = None }))
