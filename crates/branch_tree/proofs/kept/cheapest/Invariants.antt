use Rattle.std.proofs.Common.{◌≡◌, ℕ, ◌<◌, length, slice_index}
use Rattle.choice_problem.specs.Problems.{alt_count}
use Rattle.choice_problem.specs.Splits.{IsFirstCheapest}
use Rattle.branch_tree.proofs.kept.cheapest.Given as goal

abbrev pub invariant-loop-unit : goal.invariant-loop-unit
invariant-loop-unit l = record {
  counted : length l.alts.items ≡ l.unit;
  each : (u : ℕ) → u < l.unit → IsFirstCheapest l.problem l.ranges u (slice_index l.alts.items u);
  there : (u : ℕ) → u < l.unit → slice_index l.alts.items u < alt_count l.problem u;
}
