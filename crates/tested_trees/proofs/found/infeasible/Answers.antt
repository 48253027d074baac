use Rattle.tested_trees.proofs.found.infeasible.Goals as goal

pub returns : goal.returns
returns c =
    let r = c.requires in
    (r, c.sound_tree.ensures.none c.args.problem.now c.args.vectors c.args.tree r.each r.sound r.whole)
