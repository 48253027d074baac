use Rattle.std.proofs.Common.{arith, None, get_or}
use Rattle.choice_problem.specs.declared.nodes.Node.TheVariants.{Split}
use Rattle.cert_format.proofs.PrintableLemmas.{undone_more, undone_one}
use Rattle.cert_format.proofs.printable.count_undone.Goals as goal

pub loop-node-preserved : goal.loop-node-preserved
loop-node-preserved c =
    let more = undone_more c.args.nodes.now c.loop-node.node-index (Split 0 0 None) c.loop-node-test.true in
    record {
      count = omega (arith, more, c.undone_of-count.ensures, c.loop-node.invariant.count);
      few = omega (arith, undone_one (get_or c.args.nodes.now c.loop-node.node-index (Split 0 0 None)), c.undone_of-count.ensures, c.loop-node.invariant.few);
    }
