use Rattle.std.proofs.Common.{length, map}
use Rattle.search_workers.proofs.TreesLemmas.{ArePlaced}
use Rattle.search_workers.proofs.trees.trees_of.Given as goal

abbrev pub invariant-loop-last : goal.invariant-loop-last
invariant-loop-last l = ArePlaced l.task l.pieces l.fn.done.items l.rest.items (map (λ t. t.items) l.trees.items)

abbrev pub decreases-loop-last : goal.decreases-loop-last
decreases-loop-last l = length l.rest.items
