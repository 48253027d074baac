use Rattle.std.proofs.Common.{arith}
use Rattle.branch_tree.proofs.PassableLemmas.{first_place-IsFirstPassed, none_listed-Fits}
use Rattle.branch_tree.proofs.walks.first_passed.Goals as goal

pub returns-in_err-place-clause-none : goal.returns-in_err-place-clause-none
returns-in_err-place-clause-none c = rw c.from_residual.ensures (
    none_listed-Fits c.args.problem.now c.args.alts.now c.args.passable.now c.requires.alts c.requires.passable c.args.loads.now c.args.limits.now c.requires.loads c.requires.limits
    (λ i l. c.in_err-place.ensures.none i (omega (arith, l, c.requires.count))))

pub returns-clause-some : goal.returns-clause-some
returns-clause-some c =
    let above = c.in_ok-place.ensures.some in
    first_place-IsFirstPassed c.args.problem.now c.args.alts.now c.args.passable.now c.requires.alts c.requires.passable c.args.loads.now c.args.limits.now c.requires.loads c.requires.limits c.in_ok-place.place
    (omega (arith, above.there, c.requires.count)) above.above above.before
