use Rattle.std.proofs.Common.{rules, ◌≡◌, true, false, drop}
use Rattle.std.specs.Prelude.{IsTrue, is_some}
use Rattle.cert_checker.specs.Tests.{Passes, node_line}
use Rattle.cert_checker.specs.Parts.{unfixed}
use Rattle.cert_checker.proofs.NodeLemmas.{node-passed, fault-refuses, fault-passes}
use Rattle.cert_checker.proofs.nodes.check_node.Goals as goal

pub returns-then-is_some-clause-fault : goal.returns-then-is_some-clause-fault
returns-then-is_some-clause-fault c =
    let some : c.is_some.result ≡ true = search rules in
    let found : is_some c.in_ok-fault.fault ≡ true = search rules in
    fault-refuses c.args.problem.now (unfixed c.args.cert.now) c.args.walk.now c.args.walk.now c.ranges-2.result.now c.args.node c.args.floors.now c.in_ok-fault.fault found c.ranges-2.ensures c.in_ok-fault.ensures.fault

pub returns-then-branch-clause-fault : goal.returns-then-branch-clause-fault
returns-then-branch-clause-fault c =
    let p = c.args.problem.now in
    let cert = unfixed c.args.cert.now in
    let walk = c.args.walk.now in
    let ranges = c.ranges-2.result.now in
    let none : is_some c.in_ok-fault.fault ≡ false = search rules in
    let yes : IsTrue c.in_ok-go_on.field-0 = search rules in
    let pass = fault-passes (Passes p cert) (node_line ranges c.args.node c.args.floors.now) c.in_ok-fault.fault none c.in_ok-fault.ensures.fault in
    node-passed p cert walk (drop 1 walk) c.go_on.new.walk ranges c.args.node c.args.floors.now c.ranges-2.ensures pass (c.in_ok-go_on.ensures.step yes)
