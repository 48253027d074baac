use Rattle.std.proofs.Common.{◌≡◌, map, take}
use Rattle.choice_problem.specs.Problems.{chooser_at, alt_at}
use Rattle.cost_fixing.proofs.units.unit_with.Given as goal

abbrev pub invariant-loop-number : goal.invariant-loop-number
invariant-loop-number l = l.alts.items ≡ map (λ a. alt_at (chooser_at l.problem l.unit) a) (take l.number-index l.numbers)
