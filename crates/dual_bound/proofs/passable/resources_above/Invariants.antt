use Rattle.dual_bound.specs.Kept.{AreAbove}
use Rattle.dual_bound.proofs.passable.resources_above.Given as goal

abbrev pub invariant-loop-resource : goal.invariant-loop-resource
invariant-loop-resource l = AreAbove l.problem l.counts l.resource l.list.items
