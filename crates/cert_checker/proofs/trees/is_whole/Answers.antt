use Rattle.std.proofs.Common.{rules, ◌≡◌, ◌<◌, ◌≤◌, None, true, false, length, refl}
use Rattle.choice_problem.specs.declared.nodes.Node.{Node}
use Rattle.choice_problem.specs.declared.nodes.Node.TheVariants.{Split}
use Rattle.cert_checker.proofs.NodeLemmas.{whole-next, whole-refused, whole-end}
use Rattle.cert_checker.proofs.trees.is_whole.Goals as goal

abbrev no_node : Node
no_node = Split 0 0 None

pub returns-then-is_undone : goal.returns-then-is_undone
returns-then-is_undone c =
    let nodes = c.args.nodes.now in
    let lt : c.loop-node.node-index < length nodes = search rules in
    let yes : c.is_undone.result ≡ true = search rules in (
      (λ no. let never : ⊥ = cc in absurd never),
      (λ whole. absurd (whole-refused nodes c.loop-node.node-index no_node lt (c.is_undone.ensures.yes yes) c.loop-node.invariant whole)),
    )

pub loop-node-preserved : goal.loop-node-preserved
loop-node-preserved c =
    let nodes = c.args.nodes.now in
    let lt : c.loop-node.node-index < length nodes = search rules in
    let no : c.is_undone.result ≡ false = search rules in
    whole-next nodes c.loop-node.node-index no_node lt (c.is_undone.ensures.no no) c.loop-node.invariant

pub returns : goal.returns
returns c =
    let nodes = c.args.nodes.now in
    let past : length nodes ≤ c.loop-node.node-index = search rules in
    ((λ yes. whole-end nodes c.loop-node.node-index past c.loop-node.invariant), (λ whole. refl))
