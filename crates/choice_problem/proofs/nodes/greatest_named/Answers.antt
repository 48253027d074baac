use Rattle.std.proofs.Common.{take, get_or, inl, inr, sym}
use Rattle.std.proofs.lemmas.List.{take_all}
use Rattle.std.proofs.lemmas.List.Elements.{All-more, All-weaker, All-same, Contains-get_or}
use Rattle.choice_problem.specs.Named.{NamesUpTo}
use Rattle.choice_problem.proofs.NamedLemmas.{no_node, names_more}
use Rattle.choice_problem.proofs.nodes.greatest_named.Goals as goal

pub loop-node-preserved : goal.loop-node-preserved
loop-node-preserved c =
    let nodes = c.args.tree.now in
    let i = c.loop-node.node-index in
    let there = c.loop-node-test.true in
    let old = c.loop-node.most in
    let new = c.greater_named-most.result in
    let e = c.greater_named-most.ensures in
    record {
      most = All-more (NamesUpTo new) nodes i no_node there
          (All-weaker (NamesUpTo old) (NamesUpTo new) (λ n h. names_more old new n e.least h) (take i nodes) c.loop-node.invariant.most) e.names;
      named = elim e.which [
        | inl same ↦ rw same c.loop-node.invariant.named
        | inr now ↦ inr (get_or nodes i no_node, Contains-get_or nodes i no_node there, now)
      ];
    }

pub returns : goal.returns
returns c = record {
  most = All-same (NamesUpTo c.loop-node.most) c.args.tree.now (take c.loop-node.node-index c.args.tree.now)
      (sym (take_all c.loop-node.node-index c.args.tree.now c.loop-node-test.false)) c.loop-node.invariant.most;
  named = c.loop-node.invariant.named;
}
