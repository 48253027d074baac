use Rattle.std.proofs.Common.{◌<◌, List, subst, arith}
use Rattle.std.proofs.lemmas.Result.{IfOk-weaker}
use Rattle.choice_problem.specs.declared.strips.Strip.{Strip}
use Rattle.choice_problem.specs.Strips.{part_uses}
use Rattle.choice_problem.specs.Problems.{part_count, resource_count}
use Rattle.dual_bound.specs.Same.{strips_at}
use Rattle.dual_bound.specs.Classes.{IsByClass, part_order}
use Rattle.dual_bound.proofs.RefineLemmas.{IsByClass-kept, IsByClass-used}
use Rattle.dual_bound.proofs.refine.split_by_part.Goals as goal

pub returns-then-other-parts-clause-part : goal.returns-then-other-parts-clause-part
returns-then-other-parts-clause-part c =
    let other = c.args.other in
    let there : other.number < part_count c.args.problem.now other.unit = omega (arith, c.if-other-parts.true, c.parts.ensures) in
    subst (λ (strips : List Strip). IsByClass (resource_count c.args.problem.now) c.args.classes.now (λ r. part_uses strips r)) c.requires.same
    (c.requires.earlier other.unit c.if-other-part.true other.number there)

pub returns-clause-kept : goal.returns-clause-kept
returns-clause-kept c =
    let p = c.args.problem.now in
    let part = c.args.part in
    IfOk-weaker c.split_by_strips.result _ _ (λ _ s f b.
    IsByClass-kept (part_order part.unit part.number) (resource_count p) c.args.classes.now c.args.splits.now.items c.split_by_strips.new.classes c.split_by_strips.new.splits.items
    (λ r. part_uses (strips_at p part) r) f c.requires.classes
    (rw (c.part_order-order.ensures, c.requires.classes.count, c.strips-strips.ensures, c.part.ensures.value) at s) b) c.split_by_strips.ensures

pub returns-clause-part : goal.returns-clause-part
returns-clause-part c =
    let p = c.args.problem.now in
    let part = c.args.part in
    IfOk-weaker c.split_by_strips.result _ _ (λ _ s.
    IsByClass-used (part_order part.unit part.number) (resource_count p) c.args.classes.now c.args.splits.now.items c.split_by_strips.new.classes c.split_by_strips.new.splits.items
    (λ r. part_uses (strips_at p part) r) c.requires.classes
    (rw (c.part_order-order.ensures, c.requires.classes.count, c.strips-strips.ensures, c.part.ensures.value) at s)) c.split_by_strips.ensures
