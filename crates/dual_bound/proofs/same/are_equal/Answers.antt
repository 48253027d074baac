use Rattle.std.proofs.Common.{arith}
use Rattle.std.proofs.lemmas.List.{ext_get_or}
use Rattle.dual_bound.proofs.same.are_equal.Goals as goal

pub returns : goal.returns
returns c = λ _.
    ext_get_or (record { first = 0; width = 0; gap = 0; times = 0 }) c.args.one.now c.args.other.now c.loop-place.invariant.count
    (λ n l. c.loop-place.invariant.each n (omega (arith, l, c.loop-place-test.false, c.loop-place.auto.place-end)))
