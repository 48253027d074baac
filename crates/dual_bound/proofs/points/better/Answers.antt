use Rattle.std.proofs.Common.{arith}
use Rattle.std.proofs.lemmas.Int.{ints}
use Rattle.std.proofs.lemmas.Result.{IfOk-weaker}
use Rattle.dual_bound.proofs.StepLemmas.{IsGreatestUpTo-new, IsGreatestUpTo-old}
use Rattle.dual_bound.proofs.points.better.Goals as goal

pub returns-then-here-best-clause-greatest : goal.returns-then-here-best-clause-greatest
returns-then-here-best-clause-greatest c =
    IfOk-weaker c.first_best.result _ _
    (λ better e p ranges n spread h a b. rw (e.0, e.1)
    (IsGreatestUpTo-new p ranges n (spread c.args.best.prices.items) (spread c.args.here.now.prices.items) (spread c.args.here.now.loads.items) c.args.best.bound c.args.here.now.bound h a (omega (arith, ints, c.if-here-best.true)) b))
    c.first_best.ensures

pub returns-else-here-best-clause-greatest : goal.returns-else-here-best-clause-greatest
returns-else-here-best-clause-greatest c = λ p ranges n spread h a b.
    IsGreatestUpTo-old p ranges n (spread c.args.best.prices.items) (spread c.args.here.now.prices.items) (spread c.args.here.now.loads.items) c.args.best.bound c.args.here.now.bound h a (omega (arith, ints, c.if-here-best.false)) b
