use Rattle.std.proofs.Common.{◌<◌, length, arith}
use Rattle.std.specs.Prelude.{slice_index}
use Rattle.dual_bound.proofs.RefineLemmas.{AreKnown-more}
use Rattle.dual_bound.proofs.refine.known_firsts.Goals as goal

pub loop-at-preserved : goal.loop-at-preserved
loop-at-preserved c =
    let numbers = c.args.numbers.now in
    let at = c.loop-at.at in
    let firsts = c.loop-at.firsts.items in
    let known = c.loop-at.known in
    let there : slice_index numbers at < length known = omega (arith, c.requires.known at c.loop-at-test.true, c.loop-at.auto.known) in
    rw c.in_ok-push.ensures.items (AreKnown-more numbers at c.first_with.result known c.first_with.new.known firsts there c.first_with.ensures c.loop-at.invariant)
