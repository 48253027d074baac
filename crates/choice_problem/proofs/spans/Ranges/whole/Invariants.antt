use Rattle.std.proofs.Common.{◌≡◌, ℕ, ◌-◌, ◌<◌, length, map, take}
use Rattle.choice_problem.specs.Problems.{ChooserView, alt_count}
use Rattle.choice_problem.proofs.spans.Ranges.whole.Given as goal

abbrev pub invariant-loop-unit : goal.invariant-loop-unit
invariant-loop-unit l = record {
  spans : l.spans.items ≡ map (λ (m : ChooserView). (0, length m.alts - 1)) (take l.unit l.problem.units);
  some : (u : ℕ) → u < l.unit → 0 < alt_count l.problem u;
}
