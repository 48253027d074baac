use Rattle.std.proofs.Common.{◌≡◌, map}
use Rattle.std.specs.List.{range_with_len}
use Rattle.cost_fixing.specs.Fixings.{whole_alt}
use Rattle.cost_fixing.proofs.left.Left.whole_choice.Given as goal

abbrev pub invariant-loop-unit : goal.invariant-loop-unit
invariant-loop-unit l = l.alts.items ≡ map (λ u. whole_alt l.self.alts l.choice u) (range_with_len 0 l.unit)
