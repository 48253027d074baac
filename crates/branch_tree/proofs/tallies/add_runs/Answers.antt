use Rattle.std.proofs.Common.{◌<◌, length, arith}
use Rattle.branch_tree.proofs.RunLemmas.{held-more_le}
use Rattle.branch_tree.proofs.tallies.add_runs.Goals as goal

pub add_run-requires-clause-room : goal.add_run-requires-clause-room
add_run-requires-clause-room c = λ i l.
    let within : i < length c.args.counts.now = omega arith in
    omega (arith, held-more_le c.args.runs.now c.loop-run.run-index i c.loop-run-test.true, c.loop-run.invariant i within, c.requires.room i within)
