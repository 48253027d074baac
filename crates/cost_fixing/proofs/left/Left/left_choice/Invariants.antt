use Rattle.std.proofs.Common.{◌≡◌, ℕ, ◌<◌, length, slice_index}
use Rattle.choice_problem.specs.Problems.{alt_count}
use Rattle.cost_fixing.specs.Fixings.{whole_alt}
use Rattle.cost_fixing.proofs.left.Left.left_choice.Given as goal

abbrev pub invariant-loop-unit : goal.invariant-loop-unit
invariant-loop-unit l = record {
  count : length l.alts.items ≡ l.unit;
  there : (u : ℕ) → u < l.unit → slice_index l.alts.items u < alt_count l.self.problem u;
  same : (u : ℕ) → u < l.unit → whole_alt l.self.alts l.alts.items u ≡ slice_index l.choice u;
}
