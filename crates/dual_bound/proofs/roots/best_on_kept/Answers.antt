use Rattle.dual_bound.proofs.KeptLemmas.{IsGreatestUpTo-spread}
use Rattle.dual_bound.proofs.roots.best_on_kept.Goals as goal

pub returns : goal.returns
returns c =
    let numbers = c.in_ok-best.best.prices.items in
    IsGreatestUpTo-spread c.args.problem.now c.in_ok-kept.kept c.args.ranks.now c.requires.kept c.in_ok-kept.ensures c.args.ranges.now 64 numbers _ c.in_ok-best.best.bound c.requires.ranges c.in_ok-best.ensures
    (rw c.deref.ensures.value at c.in_ok-best-2.ensures.spread) c.in_ok-best-2.ensures.prices
