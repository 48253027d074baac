use Rattle.std.proofs.Common.{◌≡◌, ◌+◌, drop}
use Rattle.std.specs.Prelude.{All}
use Rattle.choice_problem.specs.Bounds.{AreRanges}
use Rattle.cert_checker.specs.Tests.{node_tests}
use Rattle.cert_checker.specs.States.{IsStateFirst}
use Rattle.cert_checker.specs.Parts.{Completes, unfixed}
use Rattle.cert_checker.proofs.nodes.walk_nodes.Given as goal

abbrev pub invariant-loop-node : goal.invariant-loop-node
invariant-loop-node l = record {
  at : l.at ≡ l.line + l.node-index;
  ranges : All (AreRanges l.problem) l.walk;
  state : IsStateFirst l.problem l.cert.vectors l.walk l.state;
  leads : Completes l.problem (unfixed l.cert) l.at (node_tests l.walk (drop l.node-index l.cert.tree) l.floors) l.line (node_tests l.fn.walk l.cert.tree l.cert.floors);
}
