use Rattle.branch_tree.proofs.greedy_start.greedy.Goals as goal

pub returns-then-branch-clause-feasible : goal.returns-then-branch-clause-feasible
returns-then-branch-clause-feasible c =
    rw c.new.ensures (c.search_start.ensures.feasible c.args.problem.now c.choose_all.new.alts.items (c.in_ok-choose_all.ensures.yes c.if-branch.true))
