use Rattle.std.proofs.Common.{◌≡◌, arith}
use Rattle.dual_bound.specs.Classes.{AreGrouped, by_classes}
use Rattle.dual_bound.proofs.roots.best_by_classes.Goals as goal

pub best_class_prices-requires-clause-ranges : goal.best_class_prices-requires-clause-ranges
best_class_prices-requires-clause-ranges c =
    let h = c.in_ok-groups.ensures in
    let r = c.requires.ranges in
    record {
      length = omega (arith, r.length, h.units);
      ordered = λ u l. r.ordered u (omega (arith, l, h.units));
      there = λ u l. omega (arith, r.there u (omega (arith, l, h.units)), h.alts u);
    }

pub spread_classes-requires : goal.spread_classes-requires
spread_classes-requires c =
    let h = c.in_ok-groups.ensures in
    let count = rw c.in-Some.is at c.in_ok-best.ensures.count in
    λ r l. rw (c.deref-2.ensures.value, c.deref-3.ensures.value) (omega (arith, count, h.there r (omega (arith, rw c.deref-2.ensures.value at l, h.count))))

pub returns : goal.returns
returns c =
    let p = c.args.problem.now in
    let groups = c.in_ok-groups.groups in
    let classes = groups.classes.items in
    let numbers = c.in-Some.best.prices.items in
    let h : AreGrouped p groups.problem classes groups.sizes.items = c.in_ok-groups.ensures in
    let spread : c.in_ok-best-2.field-0.items ≡ by_classes classes numbers = rw (c.deref-2.ensures.value, c.deref-3.ensures.value) at c.in_ok-best-2.ensures in
    rw spread ((rw (c.in-Some.is, c.deref.ensures.value) at c.in_ok-best.ensures.greatest) p classes h)
