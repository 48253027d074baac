use Rattle.std.proofs.Common.{[]}
use Rattle.choice_problem.specs.Bounds.{AreRanges}
use Rattle.search_workers.specs.Settings.{root_of}
use Rattle.search_workers.proofs.LookLemmas.{found_look}
use Rattle.search_workers.proofs.looks.look.Goals as goal

pub returns-in-Found : goal.returns-in-Found
returns-in-Found c =
    let s = c.args.task.now in
    let ranges = c.args.place.now.walk.ranges in
    let x = c.in-Found.choice in
    let leaf = c.in-Found.leaf in
    let here : AreRanges s.problem ranges = rw (c.ranges-ranges.ensures.value, c.requires.problem) at c.ranges-ranges.ensures.valid in
    found_look s ranges c.args.seen x leaf (λ u v l h. c.closed_ranges.ensures.smaller s.problem ranges [] 1 u v l h)
    (λ f. c.visited_nodes.ensures.found s.problem s.vectors (root_of s) ranges x leaf here f)
    _ _ _ _ c.in_ok-visit.ensures c.in-Found.is c.problem.ensures
