use Rattle.std.proofs.Common.{sym, arith, refl}
use Rattle.choice_problem.proofs.StripLemmas.{strip_uses-before, strip_uses-after, strip_uses-ended}
use Rattle.choice_problem.proofs.strips.Strip.uses.Goals as goal

pub returns-then-resource-self : goal.returns-then-resource-self
returns-then-resource-self c = sym (strip_uses-before c.args.self.now c.args.resource c.if-resource-self.true)

pub overflow_sub-result : goal.overflow_sub-result
overflow_sub-result c =
    let s = c.args.self.now in
    let all = strip_uses-ended s c.args.resource (omega (arith, c.if-resource-self.false)) (omega (arith, c.if-distance-self.false)) in
    omega (arith, all, c.runs_begun.ensures, c.runs_begun-begun.ensures)

pub returns-else-distance-self : goal.returns-else-distance-self
returns-else-distance-self c =
    let s = c.args.self.now in
    let all = strip_uses-ended s c.args.resource (omega (arith, c.if-resource-self.false)) (omega (arith, c.if-distance-self.false)) in
    omega (arith, all, c.runs_begun.ensures, c.runs_begun-begun.ensures)

pub returns-then-is_within : goal.returns-then-is_within
returns-then-is_within c = sym (strip_uses-after c.args.self.now c.args.resource (c.if-is_within.ensures.0 refl))
