use Rattle.std.proofs.Common.{slice_index, arith}
use Rattle.choice_problem.specs.Problems.{unit_count, alt_uses}
use Rattle.choice_problem.specs.Splits.{least_uses}
use Rattle.finite_sums.proofs.SumLemmas.{sum_below-le}
use Rattle.branch_tree.proofs.branching.split_at.Goals as goal

-- were each unit at its least, the least load would pass the limit
pub unreachable-requires : goal.unreachable-requires
unreachable-requires c =
    let p = c.args.problem.now in
    let each = sum_below-le (unit_count p)
    (λ u. alt_uses p u (slice_index c.args.alts.now u) c.args.resource)
    (λ u. least_uses p c.args.ranges.now u c.args.resource)
    (λ u l. c.loop-unit.invariant u (omega (arith, c.loop-unit-test.false, c.units-unit-end.ensures.count))) in
    c.requires.open (omega (arith, each, c.requires.passed.passed))
