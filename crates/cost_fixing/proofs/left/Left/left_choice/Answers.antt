use Rattle.std.proofs.Common.{◌<◌, ◌∙◌, ap, sym, subst, arith}
use Rattle.choice_problem.specs.Problems.{unit_count}
use Rattle.cost_fixing.specs.Fixings.{LeftView}
use Rattle.cost_fixing.specs.Loops.{IsNumbering}
use Rattle.cost_fixing.proofs.WithLemmas.{whole-is}
use Rattle.cost_fixing.proofs.StepLemmas.{none-whole}
use Rattle.cost_fixing.proofs.left.Left.left_choice.Goals as goal

pub returns-in_default-clause-none : goal.returns-in_default-clause-none
returns-in_default-clause-none c =
    let q = c.args.self.now.problem in
    let alts = c.args.self.now.alts in
    let numbered : IsNumbering q alts = subst (λ (k : LeftView). IsNumbering k.problem k.alts) c.self.view_is c.self.invariant in
    let l : c.loop-unit.unit < unit_count q =
    omega (arith, c.loop-unit-test.true, c.units-unit-end.ensures.count, c.loop-unit.auto.unit-end, ap (λ (k : LeftView). unit_count k.problem) c.self.view_is) in
    none-whole q alts c.args.choice.now c.loop-unit.unit c.alt.result numbered l c.alt.ensures c.in_default.ensures.none

pub returns-clause-same : goal.returns-clause-same
returns-clause-same c =
    let q = c.args.self.now.problem in
    let alts = c.args.self.now.alts in
    let numbered : IsNumbering q alts = subst (λ (k : LeftView). IsNumbering k.problem k.alts) c.self.view_is c.self.invariant in
    rw c.new.ensures
    (whole-is alts c.loop-unit.alts.items c.args.choice.now (c.requires ∙ sym numbered.count)
    (λ u l.
    let in_loop : u < c.loop-unit.unit =
    omega (arith, l, numbered.count, c.loop-unit-test.false, c.units-unit-end.ensures.count, c.loop-unit.auto.unit-end, ap (λ (k : LeftView). unit_count k.problem) c.self.view_is) in
    c.loop-unit.invariant.same u in_loop))
