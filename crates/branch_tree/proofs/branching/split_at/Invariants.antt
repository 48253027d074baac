use Rattle.std.proofs.Common.{ℕ, ◌<◌, ◌≤◌, slice_index}
use Rattle.choice_problem.specs.Problems.{alt_uses}
use Rattle.choice_problem.specs.Splits.{least_uses}
use Rattle.branch_tree.proofs.branching.split_at.Given as goal

abbrev pub invariant-loop-unit : goal.invariant-loop-unit
invariant-loop-unit l = (u : ℕ) → u < l.unit → alt_uses l.problem u (slice_index l.alts u) l.resource ≤ least_uses l.problem l.ranges u l.resource
