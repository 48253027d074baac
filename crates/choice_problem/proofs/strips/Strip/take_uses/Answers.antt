use Rattle.std.proofs.Common.{◌<◌, length, arith}
use Rattle.std.specs.Prelude.{if◌then◌else◌}
use Rattle.choice_problem.specs.Strips.{is_in_run}
use Rattle.finite_sums.proofs.SumLemmas.{sum_below-more_le}
use Rattle.choice_problem.proofs.strips.Strip.take_uses.Goals as goal

pub take_run-requires-clause-added : goal.take_run-requires-clause-added
take_run-requires-clause-added c = λ r l.
    let within : r < length c.args.counts.now = omega arith in
    let s = c.args.self.now in
    let more = sum_below-more_le s.times c.loop-i.i (λ i. if is_in_run s r i then 1 else 0) c.loop-i-test.true in
    rw (c.run-start.ensures.start, c.run-start.ensures.end)
    (omega (arith, c.loop-i.invariant r within, c.requires.added r within, more))
