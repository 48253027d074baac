use Rattle.std.proofs.Common.{◌≡◌, ◌≤◌, take}
use Rattle.cert_format.specs.Spelling.{undone_count}
use Rattle.cert_format.proofs.printable.count_undone.Given as goal

abbrev pub invariant-loop-node : goal.invariant-loop-node
invariant-loop-node l = record {
  count : l.count ≡ undone_count (take l.node-index l.nodes);
  few : l.count ≤ l.node-index;
}
