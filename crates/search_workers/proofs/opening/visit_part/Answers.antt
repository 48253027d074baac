use Rattle.search_workers.proofs.opening.visit_part.Goals as goal

pub returns-clause-visits : goal.returns-clause-visits
returns-clause-visits c =
    let e = c.with_found.ensures in
    rw (e.tree, e.cost, e.best, c.problem.ensures) c.in_ok-tree.ensures.visits
