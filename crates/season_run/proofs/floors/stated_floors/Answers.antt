use Rattle.std.proofs.Common.{[]}
use Rattle.std.proofs.lemmas.List.Elements.{All-cons, All-nil}
use Rattle.choice_problem.specs.Bounds.{AreRanges}
use Rattle.season_run.proofs.floors.stated_floors.Goals as goal

pub walk_floors-requires-clause-ranges : goal.walk_floors-requires-clause-ranges
walk_floors-requires-clause-ranges c =
    let p = c.args.problem.now in
    rw (c.in_ok-kept.ensures.problem, c.new-walk.ensures) (All-cons (AreRanges p) c.in_ok-whole.whole [] c.in_ok-whole.ensures.there (All-nil (AreRanges p)))

pub walk_floors-requires-clause-tree : goal.walk_floors-requires-clause-tree
walk_floors-requires-clause-tree c = rw (c.new-walk.ensures, c.in_ok-whole.ensures.value) c.requires.tree

pub walk_floors-requires-clause-none : goal.walk_floors-requires-clause-none
walk_floors-requires-clause-none c = c.new.ensures.items

pub returns : goal.returns
returns c = rw (c.in_ok-kept.ensures.problem, c.in_ok-kept.ensures.vectors, c.new-walk.ensures, c.in_ok-whole.ensures.value) at c.in_ok-walk_floors.ensures
