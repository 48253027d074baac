use Rattle.std.proofs.Common.{◌≡◌, ◌+◌, ◌≤◌, List, ◌∷◌, length, drop, get_or, None, refl, subst}
use Rattle.std.proofs.lemmas.List.{drop_more}
use Rattle.choice_problem.specs.declared.nodes.Node.{Node}
use Rattle.choice_problem.specs.declared.nodes.Node.TheVariants.{Split}
use Rattle.cert_format.specs.Spelling.{undone_count, NodeFits}
use Rattle.cert_format.proofs.WriteLemmas.{more_nodes}
use Rattle.cert_format.proofs.RangeLemmas.{all_more, none_left}
use Rattle.cert_format.proofs.printing.put_nodes.Goals as goal

pub loop-node-preserved : goal.loop-node-preserved
loop-node-preserved c =
    let nodes = c.args.nodes.now in
    let i = c.loop-node.node-index in
    let node : Node = get_or nodes i (Split 0 0 None) in
    let next : drop i nodes ≡ node ∷ drop (i + 1) nodes = drop_more nodes i (Split 0 0 None) c.loop-node-test.true in
    record {
      text = more_nodes nodes i node (Split 0 0 None) c.split_floor-floor.result.0 c.loop-node.rest.now c.split_floor-floor.result.1.now c.loop-node.out.items c.put_node.new.out.items _ c.loop-node-test.true refl c.split_floor-floor.ensures.lines c.loop-node.invariant.text c.in_ok-put_node.ensures.text;
      nodes = all_more NodeFits nodes i node (Split 0 0 None) c.loop-node-test.true refl c.loop-node.invariant.nodes c.in_ok-put_node.ensures.range;
      floors = λ all. c.loop-node.invariant.floors (c.split_floor-floor.ensures.range c.in_ok-put_node.ensures.floor all);
      count = λ few. c.split_floor-floor.ensures.count (drop (i + 1) nodes) (subst (λ (ns : List Node). length c.loop-node.rest.now ≤ undone_count ns) next (c.loop-node.invariant.count few));
    }

pub returns-clause-floors : goal.returns-clause-floors
returns-clause-floors c = λ few. c.loop-node.invariant.floors (none_left c.args.nodes.now c.loop-node.node-index c.loop-node.rest.now c.loop-node-test.false (c.loop-node.invariant.count few))
