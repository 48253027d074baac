use Rattle.std.proofs.Common.{drop}
use Rattle.cert_checker.proofs.NodeLemmas.{IsWholeLeft}
use Rattle.cert_checker.proofs.trees.is_whole.Given as goal

abbrev pub invariant-loop-node : goal.invariant-loop-node
invariant-loop-node l = IsWholeLeft (drop l.node-index l.nodes) l.nodes
