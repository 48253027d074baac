use Rattle.std.proofs.Common.{ℕ, ◌<◌, slice_index}
use Rattle.choice_problem.specs.Problems.{alt_count}
use Rattle.choice_problem.proofs.choices.Choice.is_for.Given as goal

abbrev pub invariant-loop-unit : goal.invariant-loop-unit
invariant-loop-unit l = (u : ℕ) → u < l.unit → slice_index l.self u < alt_count l.problem u
