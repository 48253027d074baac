use Rattle.std.proofs.Common.{◌∙◌, ◌+◌, ◌++◌, [], List, refl, drop, get_or, subst}
use Rattle.std.specs.Prelude.{All, IsTrue}
use Rattle.std.proofs.lemmas.List.{at_drop_all}
use Rattle.std.proofs.lemmas.List.Elements.{All-head}
use Rattle.choice_problem.specs.declared.nodes.Node.{Node}
use Rattle.choice_problem.specs.Bounds.{AreRanges}
use Rattle.choice_problem.specs.Grafts.{open_ranges}
use Rattle.choice_problem.specs.Walks.{IsStep}
use Rattle.season_run.specs.Steps.{undone_at}
use Rattle.season_run.proofs.TreeLemmas.{no_node, walkable_on, walkable_step, walkable_some, open_on, pieces_on}
use Rattle.season_run.proofs.FloorLemmas.{found-start, found-end}
use Rattle.season_run.proofs.floors.walk_floors.Goals as goal

pub loop-node-init : goal.loop-node-init
loop-node-init c =
    let p = c.args.kept.now.problem in
    record {
      walk = c.requires.tree;
      ranges = c.requires.ranges;
      kept_problem = refl;
      kept_vectors = refl;
      found = ([], refl, found-start p c.args.kept.now.vectors c.args.stated.now.bound c.args.stated.now c.requires.none refl);
    }

pub ranges-requires : goal.ranges-requires
ranges-requires c = walkable_some c.args.tree.now c.loop-node.node-index c.loop-node-test.true c.loop-node.walk c.loop-node.invariant.walk

pub add_floor-requires : goal.add_floor-requires
add_floor-requires c =
    let p = c.args.kept.now.problem in
    rw c.loop-node.invariant.kept_problem (All-head (AreRanges p) c.ranges-in-loop-node.result.now (drop 1 c.loop-node.walk) (subst (All (AreRanges p)) c.ranges-in-loop-node.ensures c.loop-node.invariant.ranges))

pub loop-node-preserved : goal.loop-node-preserved
loop-node-preserved c =
    let p = c.args.kept.now.problem in
    let nodes = c.args.tree.now in
    let i = c.loop-node.node-index in
    let there = c.loop-node-test.true in
    let old = c.loop-node.walk in
    let new = c.advance.new.self in
    let inv = c.loop-node.invariant in
    let yes : IsTrue c.in_ok-advance.field-0 = c.in_ok-advance.ensures.stop (walkable_step nodes i there old inv.walk) in
    let step : IsStep old (get_or nodes i no_node) new = c.in_ok-advance.ensures.step yes in
    let found = rw (inv.kept_problem, inv.kept_vectors) at c.in_ok-add_floor.ensures.found in
    let now = undone_at c.ranges-in-loop-node.result.now (get_or nodes i no_node) in
    record {
      walk = walkable_on nodes i there old new step inv.walk;
      ranges = c.in_ok-advance.ensures.valid p inv.ranges;
      kept_problem = c.in_ok-add_floor.ensures.problem ∙ inv.kept_problem;
      kept_vectors = c.in_ok-add_floor.ensures.vectors ∙ inv.kept_vectors;
      found = (
        inv.found.0 ++ now,
        pieces_on inv.found.0 now (open_ranges new (drop (i + 1) nodes)) (open_ranges c.args.walk.now nodes) (open_ranges old (drop i nodes)) inv.found.1
            (open_on nodes i old new c.ranges-in-loop-node.result.now there c.ranges-in-loop-node.ensures step),
        found c.args.stated.now.bound inv.found.0 inv.found.2,
      );
    }

pub returns : goal.returns
returns c =
    let p = c.args.kept.now.problem in
    let nodes = c.args.tree.now in
    let i = c.loop-node.node-index in
    let walk = c.loop-node.walk in
    let inv = c.loop-node.invariant in
    found-end p c.args.kept.now.vectors c.args.stated.now.bound c.loop-node.stated inv.found.0 (open_ranges walk (drop i nodes)) (open_ranges c.args.walk.now nodes)
    (at_drop_all (λ (l : List Node). open_ranges walk l) nodes i c.loop-node-test.false) inv.found.1 inv.found.2
