use Rattle.std.proofs.Common.{◌≡◌, ◌<◌, ◌∙◌, length, arith}
use Rattle.std.proofs.lemmas.List.Sums.{sum_by_more_le}
use Rattle.choice_problem.specs.declared.strips.Strip.{Strip}
use Rattle.choice_problem.specs.Strips.{strip_uses}
use Rattle.choice_problem.proofs.strips.Part.take_uses.Goals as goal

pub take_uses-requires-clause-added : goal.take_uses-requires-clause-added
take_uses-requires-clause-added c = λ r l.
    let within : r < length c.args.counts.now = omega arith in
    let items = c.deref-strip-items.result.now in
    let more = sum_by_more_le (λ (s : Strip). strip_uses s r) items c.loop-strip.strip-index (record { first = 0; width = 0; gap = 0; times = 0 }) c.loop-strip-test.true in
    let same : items ≡ c.args.self.now = c.deref-strip-items.ensures.value ∙ c.self.view_is in
    omega (arith, more, c.loop-strip.invariant r within, rw (← same) at (c.requires.added r within))
