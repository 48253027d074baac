use Rattle.std.proofs.Common.{arith}
use Rattle.choice_problem.specs.Problems.{alt_uses}
use Rattle.finite_sums.proofs.SumLemmas.{least_within-shorter}
use Rattle.choice_problem.proofs.closing.least_uses.Goals as goal

pub returns-then-least-eq0-clause-value : goal.returns-then-least-eq0-clause-value
returns-then-least-eq0-clause-value c =
    let shorter = least_within-shorter c.args.low c.loop-alt.alt c.args.high (λ a. alt_uses c.args.problem.now c.args.unit a c.args.resource) (omega (arith, c.loop-alt.auto)) (omega (arith, c.loop-alt-test.true)) in
    omega (arith, shorter, c.loop-alt.invariant.least, c.if-least-eq0.true)
