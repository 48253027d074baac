use Rattle.std.proofs.Common.{◌∷◌, [], List, length, ap, arith}
use Rattle.choice_problem.specs.declared.nodes.Node.{Node}
use Rattle.choice_problem.specs.Bounds.{whole_of}
use Rattle.cert_checker.proofs.LineLemmas.{node_tests-length}
use Rattle.cert_checker.proofs.nodes.check_tree.Goals as goal

pub is_tree-requires : goal.is_tree-requires
is_tree-requires c =
    let cert = c.args.cert.now in
    omega (arith, c.requires.room, node_tests-length (whole_of c.args.problem.now ∷ []) cert.tree cert.floors, ap (λ (nodes : List Node). length nodes) c.items.ensures)

pub check_nodes-requires-clause-room : goal.check_nodes-requires-clause-room
check_nodes-requires-clause-room c =
    let cert = c.args.cert.now in
    omega (arith, c.requires.room, node_tests-length (whole_of c.args.problem.now ∷ []) cert.tree cert.floors)
