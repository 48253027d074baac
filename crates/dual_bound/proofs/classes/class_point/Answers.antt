use Rattle.dual_bound.specs.Classes.{AreWeighted}
use Rattle.dual_bound.proofs.ClassLemmas.{IsPoint-by}
use Rattle.dual_bound.proofs.classes.class_point.Goals as goal

pub returns-clause-point : goal.returns-clause-point
returns-clause-point c = λ p classes h.
    let prices = c.args.prices.items in
    let weighted = c.in-Some.weighted.items in
    let w : AreWeighted prices c.args.sizes.now weighted = rw c.deref.ensures.value at (rw c.in-Some.is at c.in_ok-weighted.ensures) in
    let point = c.in_ok-point.point in
    IsPoint-by p c.args.grouped.now classes c.args.sizes.now h prices weighted w c.requires.prices c.args.ranges.now point.loads.items point.bound
    (rw c.in_ok-point.ensures.same at c.in_ok-point.ensures.point)
