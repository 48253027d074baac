use Rattle.dual_bound.proofs.RankLemmas.{AreRanksTo}
use Rattle.dual_bound.proofs.kept.ranks_above.Given as goal

abbrev pub invariant-loop-resource : goal.invariant-loop-resource
invariant-loop-resource l = AreRanksTo l.problem l.counts l.resource l.ranks.items l.rank
