use Rattle.std.proofs.Common.{length, refl}
use Rattle.dual_bound.proofs.RefineLemmas.{IsByClass-firsts}
use Rattle.dual_bound.proofs.refine.numbered.Goals as goal

pub returns-clause-kept : goal.returns-clause-kept
returns-clause-kept c = λ f b.
    let classes = c.args.classes.items in
    IsByClass-firsts classes c.in_ok-firsts.firsts.items (length classes) f refl (rw c.deref.ensures.value at c.in_ok-firsts.ensures) b
