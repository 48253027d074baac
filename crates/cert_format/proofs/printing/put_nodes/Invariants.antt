use Rattle.std.proofs.Common.{◌≡◌, ◌++◌, ◌≤◌, length, take, drop}
use Rattle.std.specs.List.{AllByRecursion}
use Rattle.cert_format.specs.Lines.{text_of}
use Rattle.cert_format.specs.Spelling.{node_lines, undone_count, NodeFits, FloorFits}
use Rattle.cert_format.proofs.printing.put_nodes.Given as goal

abbrev pub invariant-loop-node : goal.invariant-loop-node
invariant-loop-node l = record {
  text : l.out.items ++ text_of (node_lines (drop l.node-index l.nodes) l.rest) ≡ l.fn.out.items ++ text_of (node_lines l.nodes l.floors);
  nodes : AllByRecursion NodeFits (take l.node-index l.nodes);
  floors : AllByRecursion FloorFits l.rest → AllByRecursion FloorFits l.floors;
  count : length l.floors ≤ undone_count l.nodes → length l.rest ≤ undone_count (drop l.node-index l.nodes);
}
