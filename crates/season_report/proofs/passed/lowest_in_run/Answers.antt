use Rattle.std.proofs.Common.{◌≡◌, true, arith, rules}
use Rattle.season_report.specs.Private.{is_above_at}
use Rattle.season_report.proofs.passed.lowest_in_run.Goals as goal

pub returns-then-is_above : goal.returns-then-is_above
returns-then-is_above c =
    let above : is_above_at c.args.counts.now c.args.limits.now c.loop-at.at ≡ true = search rules in
    (omega (arith, c.loop-at-test.true, c.requires.there), (c.loop-at.auto.at, c.loop-at-test.true), above, λ r lt is. c.loop-at.invariant r is.0 lt)

pub returns : goal.returns
returns c = λ r lt is. c.loop-at.invariant r is.0 (omega (arith, is.1, c.loop-at-test.false))
