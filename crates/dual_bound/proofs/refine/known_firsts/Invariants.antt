use Rattle.dual_bound.proofs.RefineLemmas.{AreKnown}
use Rattle.dual_bound.proofs.refine.known_firsts.Given as goal

abbrev pub invariant-loop-at : goal.invariant-loop-at
invariant-loop-at l = AreKnown l.numbers l.at l.known l.firsts.items
