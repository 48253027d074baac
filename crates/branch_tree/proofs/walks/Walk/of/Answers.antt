use Rattle.branch_tree.proofs.walks.Walk.of.Goals as goal

pub over-requires-clause-ranks : goal.over-requires-clause-ranks
over-requires-clause-ranks c = rw (c.deref.ensures.value, c.resources-resources.ensures.count) at c.in_ok-ranks.ensures

pub over-requires-clause-count : goal.over-requires-clause-count
over-requires-clause-count c = rw c.deref-2.ensures.value at c.in_ok-limits.ensures.count

pub over-requires-clause-limits : goal.over-requires-clause-limits
over-requires-clause-limits c = rw c.deref-2.ensures.value at c.in_ok-limits.ensures.each
