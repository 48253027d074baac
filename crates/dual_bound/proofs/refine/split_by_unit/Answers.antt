use Rattle.std.proofs.Common.{◌≡◌, inl, inr, subst, arith}
use Rattle.std.proofs.lemmas.Bool.{cases_lt}
use Rattle.choice_problem.specs.Strips.{part_uses}
use Rattle.choice_problem.specs.Problems.{chooser_at, part_at, resource_count}
use Rattle.dual_bound.specs.Classes.{IsByClass}
use Rattle.dual_bound.proofs.refine.split_by_unit.Goals as goal

pub loop-number-preserved : goal.loop-number-preserved
loop-number-preserved c =
    let p = c.args.problem.now in
    let number = c.loop-number.number in
    let kept = c.in_ok-split_by_part.ensures.kept in
    record {
      split = c.in_ok-split_by_part.ensures.classes;
      more = omega (arith, c.loop-number.invariant.more, c.in_ok-split_by_part.ensures.more);
      kept = λ f b. kept f (c.loop-number.invariant.kept f b);
      shared = λ k l. elim (cases_lt k number) [
        | inl below ↦ kept (λ r. part_uses (part_at (chooser_at p c.args.unit) k) r) (c.loop-number.invariant.shared k below)
        | inr last ↦
            let e : number ≡ k = omega arith in
            subst (λ n. IsByClass (resource_count p) c.split_by_part.new.classes (λ r. part_uses (part_at (chooser_at p c.args.unit) n) r)) e c.in_ok-split_by_part.ensures.part
      ];
    }

pub returns-clause-unit : goal.returns-clause-unit
returns-clause-unit c = λ k l.
    c.loop-number.invariant.shared k (omega (arith, l, c.loop-number-test.false, c.parts-number-end.ensures))
