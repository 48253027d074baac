use Rattle.std.proofs.Common.{◌≡◌, ◌++◌, take}
use Rattle.search_workers.proofs.trees.push_all.Given as goal

abbrev pub invariant-loop-node : goal.invariant-loop-node
invariant-loop-node l = l.all.items ≡ l.initial.all.items ++ take l.node-index l.more
