use Rattle.choice_problem.specs.Bounds.{whole_of}
use Rattle.choice_problem.specs.Driven.{IsSeenBetween}
use Rattle.search_workers.specs.Settings.{IsLook}
use Rattle.search_workers.proofs.EndLemmas.{first_visited}
use Rattle.search_workers.proofs.opening.first_visit.Goals as goal

pub returns-clause-so_far : goal.returns-clause-so_far
returns-clause-so_far c =
    let s = c.args.task.now in
    let start = c.args.start in
    let look : IsLook s (whole_of s.problem) start.cost c.in_ok-node.node c.in_ok-node.found = rw c.requires.whole at c.in_ok-node.ensures in
    let now : IsSeenBetween start.cost s.greedy start.cost = rw c.requires.greedy c.requires.start.now in
    let k = first_visited s start.cost start.best c.in_ok-node.node c.in_ok-node.found c.requires.start.found now c.requires.none_over look in
    let e = c.with_found.ensures in
    rw (e.tree, e.cost, e.best, c.in_ok-tree.ensures, c.problem.ensures) k
