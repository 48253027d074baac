use Rattle.dual_bound.specs.Same.{AreSameTo}
use Rattle.dual_bound.proofs.same.same_parts.Given as goal

abbrev pub invariant-loop-unit : goal.invariant-loop-unit
invariant-loop-unit l = AreSameTo l.problem l.unit l.units.items
