use Rattle.std.proofs.Common.{◌≡◌, ◌+◌, ℕ, arith, refl}
use Rattle.finite_sums.specs.Sums.{least_within}
use Rattle.choice_problem.specs.Problems.{unit_count, resource_count, alt_uses}
use Rattle.choice_problem.specs.Bounds.{low_of, high_of, priced_cost}
use Rattle.finite_sums.proofs.SumLemmas.{sum_below-more}
use Rattle.price_table.specs.Strips.{least_alt}
use Rattle.dual_bound.specs.Loops.{least_alt_load}
use Rattle.dual_bound.proofs.EndLemmas.{AreEnds-same, AreEnds-start}
use Rattle.dual_bound.proofs.points.take_least.Goals as goal

pub loop-unit-init : goal.loop-unit-init
loop-unit-init c =
    let none = AreEnds-start (resource_count c.args.problem.now) c.args.begins.now c.args.ends.now c.requires.begins c.requires.ends
    (λ k l. c.requires.empty k (omega (arith, l, c.requires.begins))) (λ k l. c.requires.none k (omega (arith, l, c.requires.ends))) in
    record {
      total = λ prices h. refl;
      runs = λ prices h. none;
      few = λ prices h r. omega arith;
      small = omega arith;
    }

pub loop-unit-preserved : goal.loop-unit-preserved
loop-unit-preserved c =
    let p = c.args.problem.now in
    let ranges = c.args.ranges.now in
    let scale = c.args.scale in
    let unit = c.loop-unit.unit in
    record {
      total = λ prices h.
          let f : ℕ → ℕ = λ u. least_within (low_of ranges u) (high_of ranges u) (λ a. priced_cost p prices scale u a) in
          omega (arith, sum_below-more unit f, c.loop-unit.invariant.total prices h, c.take_unit-total.ensures.cost prices h);
      runs = λ prices h.
          let before : ℕ → ℕ = λ r. least_alt_load p ranges prices scale unit r in
          AreEnds-same (resource_count p) (λ r. before r + alt_uses p unit (least_alt p ranges prices scale unit) r) (λ r. least_alt_load p ranges prices scale (unit + 1) r)
          c.take_unit-total.new.begins c.take_unit-total.new.ends
          (λ r. omega (arith, sum_below-more unit (λ u. alt_uses p u (least_alt p ranges prices scale u) r)))
          (c.take_unit-total.ensures.runs prices h (resource_count p) before (c.loop-unit.invariant.runs prices h)
          (λ r l. omega (arith, c.loop-unit.invariant.few prices h r, c.take_unit-total.ensures.few prices h r, c.loop-unit-test.true, c.units-unit-end.ensures.count, c.units-unit-end.ensures.few)));
      few = λ prices h r.
          omega (arith, sum_below-more unit (λ u. alt_uses p u (least_alt p ranges prices scale u) r), c.loop-unit.invariant.few prices h r, c.take_unit-total.ensures.few prices h r);
      small = omega (arith, c.loop-unit.invariant.small, c.take_unit-total.ensures.small);
    }

pub returns-clause-total : goal.returns-clause-total
returns-clause-total c = λ prices h.
    let all : c.loop-unit.unit ≡ unit_count c.args.problem.now = omega (arith, c.loop-unit-test.false, c.units-unit-end.ensures.count, c.loop-unit.auto.unit-end) in
    rw all at (c.loop-unit.invariant.total prices h)

pub returns-clause-runs : goal.returns-clause-runs
returns-clause-runs c = λ prices h.
    let all : c.loop-unit.unit ≡ unit_count c.args.problem.now = omega (arith, c.loop-unit-test.false, c.units-unit-end.ensures.count, c.loop-unit.auto.unit-end) in
    rw all at (c.loop-unit.invariant.runs prices h)

pub returns-clause-few : goal.returns-clause-few
returns-clause-few c = λ prices h r.
    let all : c.loop-unit.unit ≡ unit_count c.args.problem.now = omega (arith, c.loop-unit-test.false, c.units-unit-end.ensures.count, c.loop-unit.auto.unit-end) in
    omega (arith, rw all at (c.loop-unit.invariant.few prices h r), c.units-unit-end.ensures.few)
