use Rattle.branch_tree.proofs.runs.push_named.Goals as goal

pub push_strips-requires-clause-ranks : goal.push_strips-requires-clause-ranks
push_strips-requires-clause-ranks c = rw c.resources-resources.ensures.count c.requires.ranks
