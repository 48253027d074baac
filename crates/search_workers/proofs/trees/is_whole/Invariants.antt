use Rattle.std.proofs.Common.{drop}
use Rattle.choice_problem.specs.Trees.{IsWhole}
use Rattle.search_workers.proofs.trees.is_whole.Given as goal

abbrev pub invariant-loop-node : goal.invariant-loop-node
invariant-loop-node l = record {
  onward : IsWhole (drop l.node-index l.nodes) → IsWhole l.nodes;
  back : IsWhole l.nodes → IsWhole (drop l.node-index l.nodes);
}
