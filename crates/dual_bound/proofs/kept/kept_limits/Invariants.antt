use Rattle.dual_bound.proofs.RankLemmas.{AreLimitsTo}
use Rattle.dual_bound.proofs.kept.kept_limits.Given as goal

abbrev pub invariant-loop-resource : goal.invariant-loop-resource
invariant-loop-resource l = AreLimitsTo l.problem l.ranks l.resource l.limits.items
