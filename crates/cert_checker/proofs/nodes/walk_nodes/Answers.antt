use Rattle.std.proofs.Common.{rules, ◌≡◌, ◌+◌, ◌<◌, ◌≤◌, [], List, length, drop, get_or, Some, None, sym, ap, ◌∙◌, subst, arith, length-drop}
use Rattle.std.specs.Prelude.{Option}
use Rattle.choice_problem.specs.declared.nodes.Node.{Node}
use Rattle.choice_problem.specs.declared.nodes.Node.TheVariants.{Split}
use Rattle.cert_checker.specs.declared.lines.Judged.{Judged}
use Rattle.cert_checker.specs.declared.verdict.Reason.{Reason}
use Rattle.cert_checker.specs.Tests.{node_tests, floors_after}
use Rattle.cert_checker.specs.Parts.{IsPart, GoesOnBy, Completes, unfixed}
use Rattle.cert_format.specs.declared.cert.Floor.{Floor}
use Rattle.cert_checker.proofs.NodeLemmas.{nodes-done, nodes-next, nodes-refused, nodes-end}
use Rattle.cert_checker.proofs.nodes.walk_nodes.Goals as goal

abbrev no_node : Node
no_node = Split 0 0 None

pub loop-node-init : goal.loop-node-init
loop-node-init c =
    let p = c.args.problem.now in
    let cert = unfixed c.args.cert.now in
    record {
      at = omega arith;
      ranges = c.requires.ranges;
      state = c.requires.state;
      leads = λ verdict next part.
          subst (λ (fs : List Floor). IsPart p cert c.args.line (node_tests c.args.walk.now cert.tree fs) verdict next) c.items-floors.ensures part;
    }

pub returns-then-is_done : goal.returns-then-is_done
returns-then-is_done c =
    let p = c.args.problem.now in
    let cert = unfixed c.args.cert.now in
    let i = c.loop-node.node-index in
    let lines = node_tests c.args.walk.now cert.tree cert.floors in
    let there : i < length c.items-nodes.result.now = search rules in
    let same : length c.items-nodes.result.now ≡ length cert.tree = ap (λ (nodes : List Node). length nodes) c.items-nodes.ensures in
    let done : c.loop-node.walk ≡ [] = search rules in
    let count : c.args.line + length c.items-nodes.result.now ≡ c.loop-node.at + length (drop i cert.tree) = omega (arith, there, same, c.loop-node.invariant.at, length-drop i cert.tree) in
    subst (λ (j : Judged). IsPart p cert c.args.line lines j.verdict j.next) (sym c.passed.ensures)
    (nodes-done p cert c.args.line c.loop-node.at c.loop-node.walk (drop i cert.tree) c.loop-node.floors.now lines (c.args.line + length c.items-nodes.result.now) done count c.loop-node.invariant.leads)

pub returns-in-Some : goal.returns-in-Some
returns-in-Some c =
    let p = c.args.problem.now in
    let cert = unfixed c.args.cert.now in
    let i = c.loop-node.node-index in
    let lines = node_tests c.args.walk.now cert.tree cert.floors in
    let there : i < length c.items-nodes.result.now = search rules in
    let same : length c.items-nodes.result.now ≡ length cert.tree = ap (λ (nodes : List Node). length nodes) c.items-nodes.ensures in
    let lt : i < length cert.tree = omega (arith, there, same) in
    let node : get_or c.items-nodes.result.now i no_node ≡ get_or cert.tree i no_node = ap (λ (nodes : List Node). get_or nodes i no_node) c.items-nodes.ensures in
    let found : c.in_ok-fault.fault ≡ Some c.in-Some.reason = search rules in
    let goes : GoesOnBy p cert c.loop-node.walk (get_or c.items-nodes.result.now i no_node) c.loop-node.floors.now c.check_node.new.walk (Some c.in-Some.reason) =
    subst (λ (o : Option Reason). GoesOnBy p cert c.loop-node.walk (get_or c.items-nodes.result.now i no_node) c.loop-node.floors.now c.check_node.new.walk o) found c.in_ok-fault.ensures.fault in
    let there_goes : GoesOnBy p cert c.loop-node.walk (get_or cert.tree i no_node) c.loop-node.floors.now c.check_node.new.walk (Some c.in-Some.reason) =
    subst (λ (n : Node). GoesOnBy p cert c.loop-node.walk n c.loop-node.floors.now c.check_node.new.walk (Some c.in-Some.reason)) node goes in
    subst (λ (j : Judged). IsPart p cert c.args.line lines j.verdict j.next) (sym c.refused.ensures)
    (nodes-refused p cert c.args.line c.loop-node.at i c.loop-node.at c.loop-node.walk c.check_node.new.walk cert.tree c.loop-node.floors.now lines no_node c.in-Some.reason lt there_goes c.loop-node.invariant.leads)

pub loop-node-preserved : goal.loop-node-preserved
loop-node-preserved c =
    let p = c.args.problem.now in
    let cert = unfixed c.args.cert.now in
    let i = c.loop-node.node-index in
    let lines = node_tests c.args.walk.now cert.tree cert.floors in
    let there : i < length c.items-nodes.result.now = search rules in
    let same : length c.items-nodes.result.now ≡ length cert.tree = ap (λ (nodes : List Node). length nodes) c.items-nodes.ensures in
    let lt : i < length cert.tree = omega (arith, there, same) in
    let node : get_or c.items-nodes.result.now i no_node ≡ get_or cert.tree i no_node = ap (λ (nodes : List Node). get_or nodes i no_node) c.items-nodes.ensures in
    let found : c.in_ok-fault.fault ≡ None = search rules in
    let goes : GoesOnBy p cert c.loop-node.walk (get_or c.items-nodes.result.now i no_node) c.loop-node.floors.now c.check_node.new.walk None =
    subst (λ (o : Option Reason). GoesOnBy p cert c.loop-node.walk (get_or c.items-nodes.result.now i no_node) c.loop-node.floors.now c.check_node.new.walk o) found c.in_ok-fault.ensures.fault in
    let there_goes : GoesOnBy p cert c.loop-node.walk (get_or cert.tree i no_node) c.loop-node.floors.now c.check_node.new.walk None =
    subst (λ (n : Node). GoesOnBy p cert c.loop-node.walk n c.loop-node.floors.now c.check_node.new.walk None) node goes in
    let floors : floors_after (get_or cert.tree i no_node) c.loop-node.floors.now ≡ c.floors_after-floors.result.now =
    ap (λ (n : Node). floors_after n c.loop-node.floors.now) (sym node) ∙ sym c.floors_after-floors.ensures in
    record {
      at = omega (arith, c.loop-node.invariant.at);
      ranges = c.in_ok-fault.ensures.ranges found;
      state = c.in_ok-fault.ensures.state found;
      leads = subst (λ (fs : List Floor). Completes p cert (c.loop-node.at + 1) (node_tests c.check_node.new.walk (drop (i + 1) cert.tree) fs) c.args.line lines) floors
          (nodes-next p cert c.args.line c.loop-node.at i c.loop-node.walk c.check_node.new.walk cert.tree c.loop-node.floors.now lines no_node lt there_goes c.loop-node.invariant.leads);
    }

pub returns : goal.returns
returns c =
    let p = c.args.problem.now in
    let cert = unfixed c.args.cert.now in
    let i = c.loop-node.node-index in
    let lines = node_tests c.args.walk.now cert.tree cert.floors in
    let there : length c.items-nodes.result.now ≤ i = search rules in
    let same : length c.items-nodes.result.now ≡ length cert.tree = ap (λ (nodes : List Node). length nodes) c.items-nodes.ensures in
    let past : length cert.tree ≤ i = omega (arith, there, same) in
    subst (λ (j : Judged). IsPart p cert c.args.line lines j.verdict j.next) (sym c.passed-2.ensures)
    (nodes-end p cert c.args.line c.loop-node.at i c.loop-node.walk cert.tree c.loop-node.floors.now lines past c.loop-node.invariant.leads)
