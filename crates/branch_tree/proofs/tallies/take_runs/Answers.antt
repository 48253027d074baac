use Rattle.std.proofs.Common.{◌<◌, length, arith}
use Rattle.branch_tree.proofs.RunLemmas.{held-more_le}
use Rattle.branch_tree.proofs.tallies.take_runs.Goals as goal

pub take_run-requires-clause-held : goal.take_run-requires-clause-held
take_run-requires-clause-held c = λ i l.
    let within : i < length c.args.counts.now = omega arith in
    omega (arith, held-more_le c.args.runs.now c.loop-run.run-index i c.loop-run-test.true, c.loop-run.invariant i within, c.requires.held i within)
