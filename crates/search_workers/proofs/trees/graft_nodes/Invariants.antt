use Rattle.std.proofs.Common.{◌≡◌, ◌≤◌, ◌++◌, drop, map, length}
use Rattle.choice_problem.specs.Grafts.{graft}
use Rattle.search_workers.proofs.trees.graft_nodes.Given as goal

abbrev pub invariant-loop-node : goal.invariant-loop-node
invariant-loop-node l = record {
  within : l.next ≤ length l.trees;
  grown : l.all.items ++ graft (drop l.node-index l.nodes) (drop l.next (map (λ t. t.items) l.trees)) ≡ graft l.nodes (map (λ t. t.items) l.trees);
}
