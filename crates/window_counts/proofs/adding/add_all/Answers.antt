use Rattle.std.proofs.Common.{◌<◌, List, length, arith}
use Rattle.std.proofs.lemmas.List.Sums.{sum_by_more_le}
use Rattle.choice_problem.specs.declared.strips.Strip.{Strip}
use Rattle.choice_problem.specs.Strips.{part_uses}
use Rattle.window_counts.proofs.adding.add_all.Goals as goal

pub add_uses-requires-clause-room : goal.add_uses-requires-clause-room
add_uses-requires-clause-room c = λ r l.
    let within : r < length c.args.counts.now = omega arith in
    let more = sum_by_more_le (λ (s : List Strip). part_uses s r) c.args.parts.now c.loop-part.part-index c.part-item.result c.loop-part-test.true in
    let part = rw (← c.part-item.is) at more in
    omega (arith, part, c.loop-part.invariant r within, c.requires.few r within)
