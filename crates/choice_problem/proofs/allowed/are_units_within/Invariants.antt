use Rattle.std.proofs.Common.{ℕ, ◌<◌, []}
use Rattle.std.specs.Prelude.{slice_index_or}
use Rattle.choice_problem.specs.Problems.{ArePartsInRange}
use Rattle.choice_problem.proofs.allowed.are_units_within.Given as goal

abbrev pub invariant-loop-unit : goal.invariant-loop-unit
invariant-loop-unit l = (k : ℕ) → k < l.unit-index → ArePartsInRange l.resources (slice_index_or l.units k (record { parts = []; alts = [] }))
