use Rattle.std.proofs.Common.{rules, ◌≡◌, Some}
use Rattle.cost_fixing.specs.Fixings.{tree_problem}
use Rattle.tested_trees.proofs.FoundLemmas.{left-vectors}
use Rattle.tested_trees.proofs.found.is_sound.Goals as goal

pub proves-requires-in-Some-2 : goal.proves-requires-in-Some-2
proves-requires-in-Some-2 g c =
    let p = c.args.problem.now in
    let is : c.in-Some-2.left ≡ tree_problem p c.args.vectors.now (Some c.in-Some.fixing) = search rules in
    (search rules, left-vectors c.left_problems.ensures.vectors p c.in-Some-2.left c.args.vectors.now c.in-Some.fixing is c.requires)
