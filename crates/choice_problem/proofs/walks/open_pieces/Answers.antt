use Rattle.std.proofs.Common.{◌++◌, ◌∙◌, ap, sym, get_or, drop, take, rules, ◌+◌, List, ℕ}
use Rattle.std.specs.Prelude.{IsTrue}
use Rattle.choice_problem.specs.Grafts.{open_ranges}
use Rattle.choice_problem.specs.Walks.{IsStep}
use Rattle.choice_problem.proofs.WalkLemmas.{no_node, walkable_on, walkable_back, open_ranges-on}
use Rattle.choice_problem.proofs.walks.open_pieces.Goals as goal

pub loop-node-preserved : goal.loop-node-preserved
loop-node-preserved c =
    let nodes = c.args.tree.now in
    let i = c.loop-node.node-index in
    let there = c.loop-node-test.true in
    let old = c.loop-node.walk in
    let new = c.advance.new.self in
    let before = c.loop-node.pieces.items in
    let yes : IsTrue c.in_ok-goes_on.goes_on = search rules in
    let step : IsStep old (get_or nodes i no_node) new = c.in_ok-goes_on.ensures.step yes in
    record {
      onward = λ h. walkable_on nodes i there old new step (c.loop-node.invariant.onward h);
      back = λ h. c.loop-node.invariant.back (walkable_back nodes i there old new step h);
      few = c.in_ok-keep_piece.ensures.few;
      kept =
          c.in_ok-keep_piece.ensures.kept (open_ranges new (drop (i + 1) nodes))
          ∙ ap (λ (open_ones : List (List (ℕ × ℕ))). take c.args.most (before ++ open_ones)) (sym (open_ranges-on nodes i there old new step))
          ∙ c.loop-node.invariant.kept;
    }
