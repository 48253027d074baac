use Rattle.std.proofs.Common.{◌≡◌, map, take}
use Rattle.std.specs.Prelude.{slice_index}
use Rattle.dual_bound.proofs.classes.spread_classes.Given as goal

abbrev pub invariant-loop-class : goal.invariant-loop-class
invariant-loop-class l = l.spread.items ≡ map (λ c. slice_index l.prices c) (take l.class-index l.classes)
