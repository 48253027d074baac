use Rattle.std.proofs.Common.{ℕ, ◌<◌, length}
use Rattle.cost_fixing.specs.Loops.{alts_in}
use Rattle.cost_fixing.proofs.left.has_each.Given as goal

abbrev pub invariant-loop-numbers : goal.invariant-loop-numbers
invariant-loop-numbers l = (u : ℕ) → u < l.numbers-index → 0 < length (alts_in l.alts u)
